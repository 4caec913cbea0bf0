use Rattle.dwarf_read_core.proofs.public.Results.{propagated-err}
use Rattle.dwarf_read_core.specs.declared.Format.{Format}
use Rattle.dwarf_read_c.proofs.OneExtent.{extent-within, part_cut}
use Rattle.dwarf_read_c.proofs.Common.{◌∙◌, ◌+◌, ap, ℕ, Ok, Err, inl, inr, arith, refl}
use Rattle.dwarf_read_c.proofs.headers.header_at.Goals as goal

pub returns-in_err-skip-clause-err : goal.returns-in_err-skip-clause-err
returns-in_err-skip-clause-err g c =
    propagated-err _ _ c.from_residual.ensures.1 (record { new = _; read = inl c.in_err-skip.ensures.err })

pub returns-in_err-skip-clause-stepped : goal.returns-in_err-skip-clause-stepped
returns-in_err-skip-clause-stepped g c = (Err _, record { new = _; read = inl c.in_err-skip.ensures.err }, refl)

pub returns-in_err-length-clause-err : goal.returns-in_err-length-clause-err
returns-in_err-length-clause-err g c =
    propagated-err _ _ c.from_residual-in_err-length.ensures.1
    (record { new = _; read = inr (tt, _, c.in_ok-skip.ensures.ok, inl c.in_err-length.ensures.err) })

pub returns-in_err-length-clause-stepped : goal.returns-in_err-length-clause-stepped
returns-in_err-length-clause-stepped g c =
    (Err _, record { new = _; read = inr (tt, _, c.in_ok-skip.ensures.ok, inl c.in_err-length.ensures.err) }, refl)

pub returns-in_err-entries-clause-err : goal.returns-in_err-entries-clause-err
returns-in_err-entries-clause-err g c =
    let cut = part_cut c.requires.clones c.in_err-entries.ensures.err in
    propagated-err _ _ c.from_residual-in_err-entries.ensures.1 (record {
      new = _;
      read = inr (tt, _, c.in_ok-skip.ensures.ok, inr (_, _, c.in_ok-length.ensures.ok, inl cut));
    })

pub returns-in_err-entries-clause-stepped : goal.returns-in_err-entries-clause-stepped
returns-in_err-entries-clause-stepped g c =
    let cut = part_cut c.requires.clones c.in_err-entries.ensures.err in (
      Err _,
      record {
        new = _;
        read = inr (tt, _, c.in_ok-skip.ensures.ok, inr (_, _, c.in_ok-length.ensures.ok, inl cut));
      },
      refl,
    )

pub overflow_add-next : goal.overflow_add-next
overflow_add-next g c =
    let size : Format × ℕ = (c.in_ok-length.format, c.in_ok-length.length) in
    let within = extent-within size c.in_ok-skip.ensures.ok c.in_ok-length.ensures.ok c.in_ok-entries.ensures.ok in
    grind (arith, within, (g.met.R.Reader.within c.args.section).positions)

pub overflow_add-next-2 : goal.overflow_add-next-2
overflow_add-next-2 g c =
    let size : Format × ℕ = (c.in_ok-length.format, c.in_ok-length.length) in
    let within = extent-within size c.in_ok-skip.ensures.ok c.in_ok-length.ensures.ok c.in_ok-entries.ensures.ok in
    grind (arith, within, (g.met.R.Reader.within c.args.section).positions)

pub returns-in_err-fields-clause-err : goal.returns-in_err-fields-clause-err
returns-in_err-fields-clause-err g c =
    let entries = c.in_ok-entries.ensures in
    propagated-err _ _ c.from_residual-in_err-fields.ensures.1 (record {
      new = _;
      read = inr (
        tt,
        _,
        c.in_ok-skip.ensures.ok,
        inr (
          _,
          _,
          c.in_ok-length.ensures.ok,
          inr (_, _, (entries.part, entries.ok), inl (_, c.in_err-fields.ensures.read, refl)),
        ),
      );
    })

pub returns-in_err-fields-clause-stepped : goal.returns-in_err-fields-clause-stepped
returns-in_err-fields-clause-stepped g c = (
  Ok (c.in_ok-length.format, c.in_ok-length.length),
  record {
    new = _;
    read = (tt, _, c.in_ok-skip.ensures.ok, (_, _, c.in_ok-length.ensures.ok, (tt, _, c.in_ok-entries.ensures.ok, refl)));
  },
  ap (λ n. let ends : ℕ × ℕ = (c.args.offset + n + c.in_ok-length.length, c.in_ok-length.length) in ends)
      (c.from.ensures ∙ c.initial_length_size.ensures),
)

pub returns-clause-found : goal.returns-clause-found
returns-clause-found g c =
    let entries = c.in_ok-entries.ensures in
    record {
      new = _;
      read = (
        tt,
        _,
        c.in_ok-skip.ensures.ok,
        (
          _,
          _,
          c.in_ok-length.ensures.ok,
          (_, _, (entries.part, entries.ok), ((_, _), _, (c.in_ok-fields.ensures.read, refl), refl)),
        ),
      );
    }

pub returns-clause-stepped : goal.returns-clause-stepped
returns-clause-stepped g c = (
  Ok (c.in_ok-length.format, c.in_ok-length.length),
  record {
    new = _;
    read = (tt, _, c.in_ok-skip.ensures.ok, (_, _, c.in_ok-length.ensures.ok, (tt, _, c.in_ok-entries.ensures.ok, refl)));
  },
  ap (λ n. let ends : ℕ × ℕ = (c.args.offset + n + c.in_ok-length.length, c.in_ok-length.length) in ends)
      (c.from.ensures ∙ c.initial_length_size.ensures),
)
