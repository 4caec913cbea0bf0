-- What a writer holds that has a buffer before an output. No public clause about a result cites this file.
use Rattle.std.specs.Prelude.{ℕ, List, [], ◌∷◌, Option}
use Rattle.std.specs.Io.KnownBytes.{append_known, prepend_known}
use Rattle.dwarf_listing_core.specs.declared.output.Buffered.{Buffered}

-- the bytes of the output and then of the buffer, after the name of the reference to the output: what is appended to
-- them is still on its way to that output
abbrev pub buffered_contents : {O : Type 0} → (O → Option (List ℕ)) → Buffered O → Option (List ℕ)
buffered_contents contents b =
    prepend_known (b.output.ghost_name ∷ []) (append_known (contents b.output.now) b.buffer.items)
