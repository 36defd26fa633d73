-- An order in parts is one that the solver goes along.
use Rattle.std.proofs.Common.{◌≡◌, ℕ, List, length, sym, ◌∙◌, subst, refl}
use Rattle.std.proofs.lemmas.List.{length-map}
use Rattle.fixpoint.specs.Graph.{ListsNodes, AreEnds}
use Rattle.flow_cfg.specs.Listing.{ListsOnce}
use Rattle.flow_cfg.specs.Parts.{part_nodes, part_ends}
use Rattle.flow_cfg.specs.Parts as order
use Rattle.flow_cfg.specs.declared.weak.Part.{Part}

pub lists_nodes : (n : ℕ) (parts : List Part) (nodes : List ℕ) → nodes ≡ part_nodes parts → ListsOnce n (part_nodes parts) → ListsNodes n nodes
lists_nodes n parts nodes e h = subst (ListsNodes n) (sym e) (record { within = h.within; all = h.all; once = h.long })

same_length : (parts : List Part) → length (part_ends parts) ≡ length (part_nodes parts)
same_length parts = length-map parts (λ p. p.end) ∙ sym (length-map parts (λ p. p.node))

pub ends_nodes : (parts : List Part) (nodes ends : List ℕ) → nodes ≡ part_nodes parts → ends ≡ part_ends parts → order.AreEnds (part_ends parts) → AreEnds (length nodes) ends
ends_nodes parts nodes ends e g h = subst (λ n. AreEnds (length n) ends) (sym e) (subst (AreEnds (length (part_nodes parts))) (sym g)
    (subst (λ k. AreEnds k (part_ends parts)) (same_length parts) (record { long = refl; past = h.past; within = h.within })))
