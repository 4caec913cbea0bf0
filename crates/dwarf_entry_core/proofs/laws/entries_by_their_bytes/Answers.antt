use Rattle.std.proofs.Common.{[], ◌∷◌, Some, arith, inl, inr, refl, true}
use Rattle.dwarf_entry_core.specs.Forms.{form_shapes}
use Rattle.dwarf_entry_core.specs.Rows.{part}
use Rattle.dwarf_entry_core.specs.Seen.{SeenAttribute}
use Rattle.dwarf_entry_core.specs.Values.{direct}
use Rattle.dwarf_entry_core.specs.declared.value.AttributeValue.TheVariants.{Data1, Flag}
use Rattle.dwarf_entry_core.proofs.laws.entries_by_their_bytes.Goals as goal

pub returns-clause-null : goal.returns-clause-null
returns-clause-null c = λ greatest e table bytes. (
  _,
  _,
  (0, _, record { len = 1; has = record { enough = omega arith; is_number = record { encoding = omega arith; within = omega arith; means = refl; in_range = refl } }; left = refl }, refl),
  refl,
)

pub returns-clause-entry : goal.returns-clause-entry
unfolding form_shapes
returns-clause-entry c = λ greatest e table d found are bytes.
    let code : SeenAttribute = record { name = record { 0 = 0x1c }; form = record { 0 = 0x0b }; value = Data1 7 } in
    let flag : SeenAttribute = record { name = record { 0 = 0x3f }; form = record { 0 = 0x19 }; value = Flag true } in (
      Some d,
      part 1 (7 ∷ bytes),
      (2, part 1 (7 ∷ bytes), record { len = 1; has = record { enough = omega arith; is_number = record { encoding = omega arith; within = omega arith; means = refl; in_range = refl } }; left = refl }, rw found refl),
      (
        code ∷ flag ∷ [],
        refl,
        rw are (
          code,
          part 2 bytes,
          ((0x0b, Data1 7), refl, (0x0b, part 1 (7 ∷ bytes), direct {form = 0x0b} (λ same. omega (arith, same)), (_, refl, (7, refl, record { enough = omega arith; encoded = refl; left = refl })))),
          (
            flag ∷ [],
            refl,
            (
              flag,
              part 2 bytes,
              ((0x19, Flag true), refl, (0x19, part 2 bytes, direct {form = 0x19} (λ same. omega (arith, same)), (_, refl, refl))),
              ([], refl, refl),
            ),
          ),
        ),
      ),
    )

pub returns-clause-code : goal.returns-clause-code
returns-clause-code c = λ greatest e table bytes none.
    inl (inr (2, _, record { len = 1; has = record { enough = omega arith; is_number = record { encoding = omega arith; within = omega arith; means = refl; in_range = refl } }; left = refl }, rw none refl))
