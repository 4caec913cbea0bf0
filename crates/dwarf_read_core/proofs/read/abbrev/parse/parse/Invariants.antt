use Rattle.dwarf_read_core.proofs.Common.{◌≡◌, ℕ, List, length, None, Ok, empty, end_of, by_end, declaration_at, table_in}
use Rattle.dwarf_read_core.specs.Answer.{BeginsWith}
use Rattle.dwarf_read_core.proofs.read.abbrev.parse.parse.Given as goal

-- the declarations so far and what is read after them are the whole table
abbrev pub invariant-declarations : goal.invariant-declarations
invariant-declarations g l =
    let view = g.R.Reader.view in
    let end = end_of (view l.initial.input) in
    let t = g.T.AbbreviationSink.table l.table in
    record {
      read : table_in end t.by_code (view l.input).bytes
          ≡ table_in end empty (view l.initial.input).bytes;
      begins : BeginsWith (view l.initial.input).bytes t.by_code (view l.input).bytes;
      unclosed : t.close ≡ by_end;
      first : (rest : List ℕ) → declaration_at end (view l.initial.input).bytes ≡ Ok (None, rest)
          → (view l.input).bytes ≡ (view l.initial.input).bytes;
      same_end : end_of (view l.input) ≡ end;
    }

abbrev pub decreases-declarations : goal.decreases-declarations
decreases-declarations g l = length (g.R.Reader.view l.input).bytes
