use Rattle.std.proofs.Common.{◌≡◌, map, drop}
use Rattle.text_defs.specs.Words.{with_all, all_of}
use Rattle.text_defs.specs.Escapes.{name_of}
use Rattle.script_text.proofs.rows.all_names.Given as goal

-- what was read, and what the words say from here on, is what all the words say
abbrev pub invariant-loop-word : goal.invariant-loop-word
invariant-loop-word l = with_all name_of l.names (map (λ word. word.now) (drop l.word-index l.words))
    ≡ all_of name_of (map (λ word. word.now) l.words)
