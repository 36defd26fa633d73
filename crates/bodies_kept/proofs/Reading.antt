-- A walk that reads a register, by number and by name.
use Rattle.std.proofs.Common.{ℕ, List, Contains, sym, ◌∙◌, subst}
use Rattle.program_model.specs.declared.body.Body.{Body}
use Rattle.program_model.specs.declared.program.Program.{Program}
use Rattle.dalvik_defs.specs.Naming.{form_of, body_of}
use Rattle.pass_defs.specs.Walks as named
use Rattle.body_graph.specs.Walks as numbered
use Rattle.removal_bridge.proofs.WalkedForms.{same_reads, same_writes, same_onward, same_caught}
use Rattle.bodies_kept.proofs.Forms.{form_for}

pub read_at_from : (p : Program) (b : Body) (r n k : ℕ) → numbered.IsReadAt b r n k → named.IsReadAt (body_of p b) r n k
read_at_from p b r n k (numbered.Here m i e h) = named.Here n (form_of p i) (form_for p b n i e) (same_reads p i r ∙ h)
read_at_from p b r n k (numbered.Onward m l j i e h c rest) =
    named.Onward n l k (form_of p i) (form_for p b n i e) (same_writes p i r ∙ h) (subst (λ (s : List ℕ). Contains s l) (sym (same_onward p i n)) c) (read_at_from p b r l k rest)
read_at_from p b r n k (numbered.Caught m l j i e c rest) =
    named.Caught n l k (form_of p i) (form_for p b n i e) (subst (λ (s : List ℕ). Contains s l) (sym (same_caught p b i n)) c) (read_at_from p b r l k rest)
