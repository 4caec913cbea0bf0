-- The version of the library.
use Rattle.std.specs.Prelude.{ℕ, List, codes}

-- the text of the version, as the file VERSION has it
abbrev pub library_version : List ℕ
library_version = codes "0.5.0"
