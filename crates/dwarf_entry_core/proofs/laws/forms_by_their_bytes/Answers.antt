use Rattle.std.proofs.Common.{arith, inr, refl}
use Rattle.dwarf_entry_core.specs.Forms.{form_shapes}
use Rattle.dwarf_entry_core.specs.Values.{direct, from_entry}
use Rattle.dwarf_entry_core.proofs.laws.forms_by_their_bytes.Goals as goal

pub returns-clause-constant : goal.returns-clause-constant
unfolding form_shapes
returns-clause-constant c = λ greatest e x old. (0x21, _, direct (λ same. omega (arith, same)), (_, refl, refl))

pub returns-clause-indirect : goal.returns-clause-indirect
unfolding form_shapes
returns-clause-indirect c = λ greatest e bytes. (
  0x0b,
  _,
  from_entry refl (record { len = 1; has = record { enough = omega arith; is_number = record { encoding = omega arith; within = omega arith; means = refl; in_range = refl } }; left = refl })
      (from_entry refl (record { len = 1; has = record { enough = omega arith; is_number = record { encoding = omega arith; within = omega arith; means = refl; in_range = refl } }; left = refl }) (direct (λ same. omega (arith, same)))),
  (_, refl, (7, refl, record { enough = omega arith; encoded = refl; left = refl })),
)

pub returns-clause-no_constant : goal.returns-clause-no_constant
unfolding form_shapes
returns-clause-no_constant c = λ greatest e bytes. inr (
  0x21,
  _,
  from_entry refl (record { len = 1; has = record { enough = omega arith; is_number = record { encoding = omega arith; within = omega arith; means = refl; in_range = refl } }; left = refl }) (direct (λ same. omega (arith, same))),
  refl,
)

pub returns-clause-unknown : goal.returns-clause-unknown
unfolding form_shapes
returns-clause-unknown c = λ greatest e old. inr (0x02, _, direct (λ same. omega (arith, same)), refl)
