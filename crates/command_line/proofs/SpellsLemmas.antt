-- What words spell is what is made of them.
use Rattle.std.proofs.Common.{◌≡◌, ℕ, List, [], ◌∷◌, Option, Some, None, option_and_then, option_map, IfSome, IfNone, refl, sym, ap, ◌∙◌}
use Rattle.command_line.specs.declared.command.CommandWords.{CommandWords}
use Rattle.command_line.specs.declared.command.CommandWords.TheVariants.{Nothing}
use Rattle.command_line.specs.Spelling.{Spells, sorted_of, command_name}
use Rattle.command_line.specs.Spelling as spelling
use Rattle.command_line.specs.Reading.{command_of, command_from, said, verb_of}
use Rattle.command_line.proofs.OptionLemmas.{chained, mapped}
use Rattle.command_line.proofs.SaidLemmas.{says-again, says-is}
use Rattle.command_line.proofs.AskedLemmas.{verb_of_command, verb_of-name, verb_of-is, asks-again, command_from-is}

pub spells-again : (words : List (List ℕ)) (c : CommandWords) → Spells words c → command_of words ≡ Some c
spells-again _ _ spelling.silent = refl
spells-again _ _ (spelling.command c rest ps says asks) =
    ap (λ v. option_and_then (λ w. option_and_then (command_from w) (option_map sorted_of (said rest))) v) (verb_of-name c)
    ∙ ap (λ o. option_and_then (λ w. option_and_then (command_from w) (option_map sorted_of o)) (verb_of_command c)) (says-again rest ps says)
    ∙ asks-again (sorted_of ps) c asks

pub spells-is : (words : List (List ℕ)) (c : CommandWords) → command_of words ≡ Some c → Spells words c
spells-is [] c h = let is : Nothing ≡ c = cc in rw (← is) spelling.silent
spells-is (name ∷ rest) c h =
    let k = chained (λ v. option_and_then (command_from v) (option_map sorted_of (said rest))) (verb_of name) c h in
    let s = chained (command_from k.0) (option_map sorted_of (said rest)) c k.2 in
    let p = mapped sorted_of (said rest) s.0 s.1 in
    let made = command_from-is k.0 (sorted_of p.0) c (rw p.2 at s.2) in
    let name_is : name ≡ command_name c = verb_of-is name k.0 k.1 ∙ made.name in
    rw name_is (spelling.command c rest p.0 (says-is rest p.0 p.1) made.asks)

pub found : (words : List (List ℕ)) (answer : Option CommandWords) → answer ≡ command_of words → IfSome answer (Spells words)
found words None h = tt
found words (Some c) h = spells-is words c (sym h)

pub only : (words : List (List ℕ)) (answer : Option CommandWords) → answer ≡ command_of words → (c : CommandWords) → Spells words c → answer ≡ Some c
only words answer h c s = h ∙ spells-again words c s

pub none : (words : List (List ℕ)) (answer : Option CommandWords) → answer ≡ command_of words → IfNone answer ((c : CommandWords) → ¬ (Spells words c))
none words None h = λ c s. let e : None ≡ Some c = h ∙ spells-again words c s in cc
none words (Some d) h = tt
