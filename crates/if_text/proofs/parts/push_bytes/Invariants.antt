use Rattle.std.proofs.Common.{◌≡◌, ◌++◌, take}
use Rattle.if_text.specs.Parts.{bytes_in}
use Rattle.if_text.proofs.parts.push_bytes.Given as goal

abbrev pub invariant-loop-byte : goal.invariant-loop-byte
invariant-loop-byte l = l.parts.items ≡ l.fn.parts.items ++ bytes_in (take l.byte-index l.bytes)
