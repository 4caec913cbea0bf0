use Rattle.std.proofs.Common.{ℕ, List, ◌∷◌, arith, false, refl}
use Rattle.dwarf_read_core.specs.Input.{section_of}
use Rattle.dwarf_read_core.specs.Leb128.{ReadsLeb128, unsigned64}
use Rattle.dwarf_entry_core.specs.Forms.{form_shapes}
use Rattle.dwarf_entry_core.specs.Values.{direct}
use Rattle.dwarf_entry_core.specs.Rows.{part}
use Rattle.dwarf_entry_core.proofs.laws.values_by_their_bytes.Goals as goal

-- the bytes 129 and 1 are the number 129
two_bytes : (more : List ℕ) → ReadsLeb128 unsigned64 (section_of (129 ∷ 1 ∷ more) false) 129 (part 2 more)
two_bytes more = record { len = 2; has = record { enough = omega arith; is_number = record { encoding = (omega arith, omega arith); within = omega arith; means = refl; in_range = refl } }; left = refl }

pub returns-clause-addresses : goal.returns-clause-addresses
unfolding form_shapes
returns-clause-addresses c = (
  λ greatest more fits. (0x01, _, direct (λ same. omega (arith, same)), (_, refl, (513, refl, (record { enough = omega arith; encoded = refl; left = refl }, refl)))),
  λ greatest more fits. (0x01, _, direct (λ same. omega (arith, same)), (_, refl, (513, refl, (record { enough = omega arith; encoded = refl; left = refl }, refl)))),
)

pub returns-clause-blocks : goal.returns-clause-blocks
unfolding form_shapes
returns-clause-blocks c = (
  λ greatest more fits. (0x0a, _, direct (λ same. omega (arith, same)), (_, refl, (_, refl, (2, _, (record { enough = omega arith; encoded = refl; left = refl }, omega (arith, fits)), (refl, record { enough = omega arith; left = refl }))))),
  λ greatest more fits. (0x03, _, direct (λ same. omega (arith, same)), (_, refl, (_, refl, (2, _, (record { enough = omega arith; encoded = refl; left = refl }, omega (arith, fits)), (refl, record { enough = omega arith; left = refl }))))),
  λ greatest more fits. (0x04, _, direct (λ same. omega (arith, same)), (_, refl, (_, refl, (2, _, (record { enough = omega arith; encoded = refl; left = refl }, omega (arith, fits)), (refl, record { enough = omega arith; left = refl }))))),
  λ greatest more fits. (0x09, _, direct (λ same. omega (arith, same)), (_, refl, (_, refl, (2, _, (record { len = 2; has = record { enough = omega arith; is_number = record { encoding = (omega arith, omega arith); within = omega arith; means = refl; in_range = refl } }; left = refl }, omega (arith, fits)), (refl, record { enough = omega arith; left = refl }))))),
  λ greatest more fits. (0x18, _, direct (λ same. omega (arith, same)), (_, refl, (_, refl, (2, _, (record { len = 1; has = record { enough = omega arith; is_number = record { encoding = omega arith; within = omega arith; means = refl; in_range = refl } }; left = refl }, omega (arith, fits)), (refl, record { enough = omega arith; left = refl }))))),
)

pub returns-clause-constants : goal.returns-clause-constants
unfolding form_shapes
returns-clause-constants c = (
  λ greatest more fits. (0x0b, _, direct (λ same. omega (arith, same)), (_, refl, (7, refl, record { enough = omega arith; encoded = refl; left = refl }))),
  λ greatest more fits. (0x05, _, direct (λ same. omega (arith, same)), (_, refl, (513, refl, record { enough = omega arith; encoded = refl; left = refl }))),
  λ greatest more fits. (0x06, _, direct (λ same. omega (arith, same)), (_, refl, (513, refl, record { enough = omega arith; encoded = refl; left = refl }))),
  λ greatest more fits. (0x07, _, direct (λ same. omega (arith, same)), (_, refl, (513, refl, record { enough = omega arith; encoded = refl; left = refl }))),
  λ greatest more fits. (0x1e, _, direct (λ same. omega (arith, same)), (_, refl, (513, refl, record { enough = omega arith; encoded = refl; left = refl }))),
  λ greatest more fits. (0x0d, _, direct (λ same. omega (arith, same)), (_, refl, (_, refl, record { len = 1; has = record { enough = omega arith; is_number = record { encoding = omega arith; within = omega arith; means = refl; in_range = refl } }; left = refl }))),
  λ greatest more fits. (0x0f, _, direct (λ same. omega (arith, same)), (_, refl, (129, refl, two_bytes more))),
)

pub returns-clause-flags : goal.returns-clause-flags
unfolding form_shapes
returns-clause-flags c = (
  λ greatest more fits. (0x0c, _, direct (λ same. omega (arith, same)), (_, refl, (0, refl, record { enough = omega arith; encoded = refl; left = refl }))),
  λ greatest more fits. (0x0c, _, direct (λ same. omega (arith, same)), (_, refl, (2, refl, record { enough = omega arith; encoded = refl; left = refl }))),
  λ greatest more fits. (0x19, _, direct (λ same. omega (arith, same)), (_, refl, refl)),
)

pub returns-clause-offsets : goal.returns-clause-offsets
unfolding form_shapes
returns-clause-offsets c = (
  λ greatest more fits. (0x17, _, direct (λ same. omega (arith, same)), (_, refl, (513, refl, (record { enough = omega arith; encoded = refl; left = refl }, omega (arith, fits))))),
  λ greatest more fits. (0x17, _, direct (λ same. omega (arith, same)), (_, refl, (513, refl, (record { enough = omega arith; encoded = refl; left = refl }, omega (arith, fits))))),
  λ greatest more fits. (0x0e, _, direct (λ same. omega (arith, same)), (_, refl, (513, refl, (record { enough = omega arith; encoded = refl; left = refl }, omega (arith, fits))))),
  λ greatest more fits. (0x0e, _, direct (λ same. omega (arith, same)), (_, refl, (513, refl, (record { enough = omega arith; encoded = refl; left = refl }, omega (arith, fits))))),
  λ greatest more fits. (0x1d, _, direct (λ same. omega (arith, same)), (_, refl, (513, refl, (record { enough = omega arith; encoded = refl; left = refl }, omega (arith, fits))))),
  λ greatest more fits. (0x1f, _, direct (λ same. omega (arith, same)), (_, refl, (513, refl, (record { enough = omega arith; encoded = refl; left = refl }, omega (arith, fits))))),
  λ greatest more fits. (0x1f21, _, direct (λ same. omega (arith, same)), (_, refl, (513, refl, (record { enough = omega arith; encoded = refl; left = refl }, omega (arith, fits))))),
)

pub returns-clause-references : goal.returns-clause-references
unfolding form_shapes
returns-clause-references c = (
  λ greatest more fits. (0x11, _, direct (λ same. omega (arith, same)), (_, refl, (7, refl, (record { enough = omega arith; encoded = refl; left = refl }, omega (arith, fits))))),
  λ greatest more fits. (0x12, _, direct (λ same. omega (arith, same)), (_, refl, (513, refl, (record { enough = omega arith; encoded = refl; left = refl }, omega (arith, fits))))),
  λ greatest more fits. (0x13, _, direct (λ same. omega (arith, same)), (_, refl, (513, refl, (record { enough = omega arith; encoded = refl; left = refl }, omega (arith, fits))))),
  λ greatest more fits. (0x14, _, direct (λ same. omega (arith, same)), (_, refl, (513, refl, (record { enough = omega arith; encoded = refl; left = refl }, omega (arith, fits))))),
  λ greatest more fits. (0x15, _, direct (λ same. omega (arith, same)), (_, refl, (129, refl, (two_bytes more, omega (arith, fits))))),
  λ greatest more fits. (0x10, _, direct (λ same. omega (arith, same)), (_, refl, (513, refl, (record { enough = omega arith; encoded = refl; left = refl }, refl, omega (arith, fits))))),
  λ greatest more fits. (0x10, _, direct (λ same. omega (arith, same)), (_, refl, (513, refl, (record { enough = omega arith; encoded = refl; left = refl }, omega (arith, fits))))),
  λ greatest more fits. (0x10, _, direct (λ same. omega (arith, same)), (_, refl, (513, refl, (record { enough = omega arith; encoded = refl; left = refl }, omega (arith, fits))))),
  λ greatest more fits. (0x1c, _, direct (λ same. omega (arith, same)), (_, refl, (513, refl, (record { enough = omega arith; encoded = refl; left = refl }, omega (arith, fits))))),
  λ greatest more fits. (0x24, _, direct (λ same. omega (arith, same)), (_, refl, (513, refl, (record { enough = omega arith; encoded = refl; left = refl }, omega (arith, fits))))),
  λ greatest more fits. (0x1f20, _, direct (λ same. omega (arith, same)), (_, refl, (513, refl, (record { enough = omega arith; encoded = refl; left = refl }, omega (arith, fits))))),
  λ greatest more fits. (0x1f20, _, direct (λ same. omega (arith, same)), (_, refl, (513, refl, (record { enough = omega arith; encoded = refl; left = refl }, omega (arith, fits))))),
  λ greatest more fits. (0x20, _, direct (λ same. omega (arith, same)), (_, refl, (513, refl, record { enough = omega arith; encoded = refl; left = refl }))),
)

pub returns-clause-indexes : goal.returns-clause-indexes
unfolding form_shapes
returns-clause-indexes c = (
  λ greatest more fits. (0x1a, _, direct (λ same. omega (arith, same)), (_, refl, (129, refl, (two_bytes more, omega (arith, fits))))),
  λ greatest more fits. (0x25, _, direct (λ same. omega (arith, same)), (_, refl, (7, refl, (record { enough = omega arith; encoded = refl; left = refl }, omega (arith, fits))))),
  λ greatest more fits. (0x26, _, direct (λ same. omega (arith, same)), (_, refl, (513, refl, (record { enough = omega arith; encoded = refl; left = refl }, omega (arith, fits))))),
  λ greatest more fits. (0x27, _, direct (λ same. omega (arith, same)), (_, refl, (513, refl, (record { enough = omega arith; encoded = refl; left = refl }, omega (arith, fits))))),
  λ greatest more fits. (0x28, _, direct (λ same. omega (arith, same)), (_, refl, (513, refl, (record { enough = omega arith; encoded = refl; left = refl }, omega (arith, fits))))),
  λ greatest more fits. (0x1f02, _, direct (λ same. omega (arith, same)), (_, refl, (129, refl, (two_bytes more, omega (arith, fits))))),
  λ greatest more fits. (0x1b, _, direct (λ same. omega (arith, same)), (_, refl, (129, refl, (two_bytes more, omega (arith, fits))))),
  λ greatest more fits. (0x29, _, direct (λ same. omega (arith, same)), (_, refl, (7, refl, (record { enough = omega arith; encoded = refl; left = refl }, omega (arith, fits))))),
  λ greatest more fits. (0x2a, _, direct (λ same. omega (arith, same)), (_, refl, (513, refl, (record { enough = omega arith; encoded = refl; left = refl }, omega (arith, fits))))),
  λ greatest more fits. (0x2b, _, direct (λ same. omega (arith, same)), (_, refl, (513, refl, (record { enough = omega arith; encoded = refl; left = refl }, omega (arith, fits))))),
  λ greatest more fits. (0x2c, _, direct (λ same. omega (arith, same)), (_, refl, (513, refl, (record { enough = omega arith; encoded = refl; left = refl }, omega (arith, fits))))),
  λ greatest more fits. (0x1f01, _, direct (λ same. omega (arith, same)), (_, refl, (129, refl, (two_bytes more, omega (arith, fits))))),
  λ greatest more fits. (0x22, _, direct (λ same. omega (arith, same)), (_, refl, (129, refl, (two_bytes more, omega (arith, fits))))),
  λ greatest more fits. (0x23, _, direct (λ same. omega (arith, same)), (_, refl, (129, refl, (two_bytes more, omega (arith, fits))))),
)

pub returns-clause-strings : goal.returns-clause-strings
unfolding form_shapes
returns-clause-strings c =
    λ greatest more fits. (0x08, _, direct (λ same. omega (arith, same)), (_, refl, (_, refl, record { len = 2; ends = record { within = omega arith; here = refl; before = grind arith }; content = refl; left = refl })))
