use Rattle.std.proofs.Common.{◌≡◌, ℕ, List, take}
use Rattle.std.specs.List.{list_any}
use Rattle.dalvik_defs.specs.Names.{text_eq}
use Rattle.script_text.specs.Named.{has_name}
use Rattle.script_text.proofs.known.known_names.Given as goal

abbrev pub invariant-loop-known : goal.invariant-loop-known
invariant-loop-known l = (name : List ℕ) → has_name l.names name ≡ list_any (λ k. text_eq name k.now) (take l.known-index l.known-items)
