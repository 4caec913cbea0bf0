use Rattle.dwarf_listing_core.proofs.Common.{arith, ◌≡◌, ℕ, ◌+◌, ◌-◌, ◌≤◌, List, ◌++◌, Option, length, take, drop, sym, ap, ◌∙◌, length-take, Appends}
use Rattle.std.proofs.Common.{subst}
use Rattle.std.proofs.KnownBytes.{Appends-trans, Appends-kept}
use lib.Seq.{take-add, take-take}
use Rattle.dwarf_listing_core.proofs.output.write_out.Goals as goal
use Rattle.dwarf_listing_core.proofs.output.write_out.Goals.{in-Ok, in-Err+else-ne}

-- the bytes that were written, and some of those that follow, are the first bytes of all
written_more : (old now new : Option (List ℕ)) (bytes : List ℕ) (done count all : ℕ) → done ≤ length bytes
    → count ≤ length (take (length bytes - done) (drop done bytes)) → all ≡ done + count
    → Appends old now (take done bytes) → Appends now new (take count (take (length bytes - done) (drop done bytes)))
    → record { within : all ≤ length bytes; appended : Appends old new (take all bytes) }
written_more old now new bytes done count all within bound sum before next =
    let most = length-take (length bytes - done) (drop done bytes) in
    let joined : take done bytes ++ take count (take (length bytes - done) (drop done bytes)) ≡ take all bytes =
    ap (λ l. take done bytes ++ l) (take-take count (length bytes - done) (drop done bytes) (omega arith))
    ∙ sym (take-add done count bytes) ∙ ap (λ n. take n bytes) (sym sum) in record {
      within = omega arith;
      appended = subst (Appends old new) joined (Appends-trans old now new _ _ before next);
    }

pub calls-preserved : goal.calls-preserved
calls-preserved g c =
    let before = c.calls.invariant in
    elim c.match-write.branch [
      | in-Ok w ↦
          written_more _ _ _ _ _ _ _ before.within w.in-Ok.ensures.bound w.written-is before.appended
          w.in-Ok.ensures.bytes
      | in-Err+else-ne w ↦ record {
        within = rw w.written-is before.within;
        appended = rw w.written-is (Appends-kept _ _ _ _ before.appended w.in-Err.ensures.bytes);
      }
    ]
