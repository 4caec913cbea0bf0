use Rattle.std.proofs.Common.{arith, inr, refl}
use Rattle.dwarf_read_core.specs.InitialLength.{in_eight_bytes}
use Rattle.dwarf_read_core.specs.declared.Format.TheVariants.{Dwarf64}
use Rattle.dwarf_unit_core.proofs.laws.headers_of_units_by_their_bytes.Goals as goal

pub returns : goal.returns
returns g c = record {
  info = λ greatest bytes fits. (
    4,
    _,
    record { enough = omega arith; encoded = refl; left = refl },
    (
      16,
      _,
      (record { enough = omega arith; encoded = refl; left = refl }, fits),
      (8, _, (record { enough = omega arith; encoded = refl; left = refl }, refl), (_, _, refl, refl)),
    ),
  );
  unit_64 = λ greatest bytes fits. (
    (Dwarf64, 12),
    _,
    in_eight_bytes
        (record { enough = omega arith; encoded = refl; left = refl })
        (record { enough = omega arith; encoded = refl; left = refl })
        (omega (arith, fits)),
    (
      _,
      _,
      (refl, record { enough = omega arith; left = refl }),
      (
        _,
        _,
        (
          (
            3,
            _,
            record { enough = omega arith; encoded = refl; left = refl },
            (
              16,
              _,
              (record { enough = omega arith; encoded = refl; left = refl }, fits),
              (4, _, (record { enough = omega arith; encoded = refl; left = refl }, refl), (_, _, refl, refl)),
            ),
          ),
          refl,
        ),
        refl,
      ),
    ),
  );
  types = λ greatest bytes fits. (
    4,
    _,
    record { enough = omega arith; encoded = refl; left = refl },
    (
      16,
      _,
      (record { enough = omega arith; encoded = refl; left = refl }, omega (arith, fits)),
      (
        8,
        _,
        (record { enough = omega arith; encoded = refl; left = refl }, refl),
        (
          _,
          _,
          (
            (1, 30),
            refl,
            (
              1,
              _,
              record { enough = omega arith; encoded = refl; left = refl },
              (30, _, (record { enough = omega arith; encoded = refl; left = refl }, fits), refl),
            ),
          ),
          refl,
        ),
      ),
    ),
  );
  skeleton = λ greatest bytes fits. (
    5,
    _,
    record { enough = omega arith; encoded = refl; left = refl },
    (
      4,
      _,
      record { enough = omega arith; encoded = refl; left = refl },
      (
        8,
        _,
        (record { enough = omega arith; encoded = refl; left = refl }, refl),
        (
          16,
          _,
          (record { enough = omega arith; encoded = refl; left = refl }, fits),
          (_, _, (7, refl, record { enough = omega arith; encoded = refl; left = refl }), refl),
        ),
      ),
    ),
  );
  version = λ greatest bytes. inr (1, _, record { enough = omega arith; encoded = refl; left = refl }, refl);
}
