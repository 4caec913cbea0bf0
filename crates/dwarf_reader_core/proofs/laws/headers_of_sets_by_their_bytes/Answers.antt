use Rattle.dwarf_reader_core.proofs.Common.{arith, inl, inr, refl}
use Rattle.dwarf_reader_core.proofs.laws.headers_of_sets_by_their_bytes.Goals as goal

pub returns : goal.returns
returns c = record {
  address = λ greatest format bytes. (
    tt,
    _,
    (5, _, record { enough = omega arith; encoded = refl; left = refl }, refl),
    (
      8,
      _,
      (record { enough = omega arith; encoded = refl; left = refl }, refl),
      (0, _, record { enough = omega arith; encoded = refl; left = refl }, (tt, _, refl, refl)),
    ),
  );
  version = λ greatest format bytes. inl (inr (4, _, record { enough = omega arith; encoded = refl; left = refl }, refl));
  segment_size = λ greatest format bytes.
      inr (
        tt,
        _,
        (5, _, record { enough = omega arith; encoded = refl; left = refl }, refl),
        inr (
          8,
          _,
          (record { enough = omega arith; encoded = refl; left = refl }, refl),
          inr (1, _, record { enough = omega arith; encoded = refl; left = refl }, inl refl),
        ),
      );
  string_offsets = λ greatest format bytes. (
    tt,
    _,
    (5, _, record { enough = omega arith; encoded = refl; left = refl }, refl),
    (1801, _, record { enough = omega arith; encoded = refl; left = refl }, refl),
  );
}
