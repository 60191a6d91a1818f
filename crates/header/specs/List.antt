-- The strings of a header list as one value.
-- Assumes nothing.
use Rattle.std.specs.Prelude.{List, ℕ}
use Rattle.header.specs.declared.Header.{Header}
use Rattle.header.specs.Header.{strings}

abbrev pub strings_of : Header → List (List ℕ)
strings_of header = strings header.bytes.now header.lens.now
