use Rattle.dwarf_read_core.proofs.Common.{◌≡◌, ◌≤◌, length, take, map, All, AllWithin, KeepsAnswers, get, least_count, occurrences, debug_abbrev_reader}
use Rattle.dwarf_read_core.proofs.read.abbrev.cache.populated.Given as goal

abbrev pub invariant-loop-offset : goal.invariant-loop-offset
invariant-loop-offset g l =
    let seen = map (λ offset. g.R.Offset.ReaderOffset.value offset.0) (take l.offset-index l.offset-items) in
    record {
      counted : l.count ≡ occurrences l.last seen;
      fits : l.count ≤ l.offset-index;
      seen_upto : All (λ offset. offset ≤ l.last) seen;
      left_from : AllWithin (λ offset. l.last ≤ g.R.Offset.ReaderOffset.value offset.0) l.offset-items l.offset-index
          (length l.offset-items);
      kept : KeepsAnswers (least_count l.strategy) (g.R.Reader.view (debug_abbrev_reader l.debug_abbrev)) seen
          (get l.cache);
    }
