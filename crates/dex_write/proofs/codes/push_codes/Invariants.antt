use Rattle.std.proofs.Common.{◌≡◌, ◌++◌, drop}
use Rattle.dex_write.specs.Codes.{codes_behind, codes_text, lines_behind}
use Rattle.dex_write.proofs.codes.push_codes.Given as goal

abbrev pub invariant-loop-part : goal.invariant-loop-part
invariant-loop-part l = record {
  text : l.out.items ++ codes_text l.code l.lines (drop l.part-index l.parts) ≡ l.fn.out.items ++ codes_text l.fn.from.code l.fn.from.lines l.parts;
  code : codes_behind l.code (drop l.part-index l.parts) ≡ codes_behind l.fn.from.code l.parts;
  lines : lines_behind l.lines (drop l.part-index l.parts) ≡ lines_behind l.fn.from.lines l.parts;
}
