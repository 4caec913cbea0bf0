use Rattle.std.proofs.Common.{inl, inr, refl}
use Rattle.dwarf_read_core.proofs.public.Results.{propagated-is}
use Rattle.dwarf_unit_core.proofs.header.parse_from_5.Goals as goal

pub returns-in_err-abbrev_offset-clause-read : goal.returns-in_err-abbrev_offset-clause-read
returns-in_err-abbrev_offset-clause-read g c =
    rw (propagated-is _ c.from_residual-in_err-abbrev_offset.ensures.1)
    (inr (
      _,
      _,
      c.in_ok-code.ensures.ok,
      inr (_, _, c.in_ok-address_size.ensures.ok, inl c.in_err-abbrev_offset.ensures.err),
    ))

pub returns-in_err-unit_type-clause-read : goal.returns-in_err-unit_type-clause-read
returns-in_err-unit_type-clause-read g c =
    rw (propagated-is _ c.from_residual-in_err-unit_type.ensures.1)
    (inr (
      _,
      _,
      c.in_ok-code.ensures.ok,
      inr (
        _,
        _,
        c.in_ok-address_size.ensures.ok,
        inr (
          _,
          _,
          (c.in_ok-abbrev_offset.ensures.ok, c.in_ok-abbrev_offset.ensures.in_range),
          inl c.in_err-unit_type.ensures.read,
        ),
      ),
    ))

pub returns-clause-read : goal.returns-clause-read
returns-clause-read g c = (
  _,
  _,
  c.in_ok-code.ensures.ok,
  (
    _,
    _,
    c.in_ok-address_size.ensures.ok,
    (
      _,
      _,
      (c.in_ok-abbrev_offset.ensures.ok, c.in_ok-abbrev_offset.ensures.in_range),
      (_, _, c.in_ok-unit_type.ensures.read, refl),
    ),
  ),
)
