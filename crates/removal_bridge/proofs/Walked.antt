-- Walks through a body and through its named body.
use Rattle.std.proofs.Common.{◌≡◌, ◌↔◌, ℕ, Bool, true, false, List, Option, Some, None, slice_get, Contains, refl, sym, ap, ◌∙◌, subst}
use Rattle.std.specs.Option.{option_map}
use Rattle.insn_set.specs.declared.form.Insn.{Insn}
use Rattle.insn_set.specs.Registers.{reads_of, writes_of}
use Rattle.program_model.specs.declared.body.Body.{Body}
use Rattle.program_model.specs.declared.program.Program.{Program}
use Rattle.dalvik_defs.specs.declared.forms.Form.{Form}
use Rattle.dalvik_defs.specs.Naming.{form_of, body_of}
use Rattle.flow_cfg.specs.Walks.{successors_of}
use Rattle.pass_defs.specs.Bare.{reads, writes}
use Rattle.pass_defs.specs.Walks as named
use Rattle.body_graph.specs.Walks as numbered
use Rattle.removal_bridge.specs.Bridged.{IsReachedByNumber, IsReadByNumber, IsReadAfterByNumber}
use Rattle.removal_bridge.proofs.WalkedForms.{same_reads, same_writes, same_onward, same_caught, same_successors, form_there}

-- ---- what is reached

walk_to : (next other : ℕ → List ℕ) → ((n : ℕ) → next n ≡ other n) → (n m : ℕ) → named.Walk next n m → numbered.Walk other n m
walk_to next other same n m (named.Stays k) = numbered.Stays n
walk_to next other same n m (named.Goes k j l c w) = numbered.Goes n j m (subst (λ (s : List ℕ). Contains s j) (same n) c) (walk_to next other same j m w)

walk_from : (next other : ℕ → List ℕ) → ((n : ℕ) → next n ≡ other n) → (n m : ℕ) → numbered.Walk other n m → named.Walk next n m
walk_from next other same n m (numbered.Stays k) = named.Stays n
walk_from next other same n m (numbered.Goes k j l c w) = named.Goes n j m (subst (λ (s : List ℕ). Contains s j) (sym (same n)) c) (walk_from next other same j m w)

pub reached_by_number : IsReachedByNumber
reached_by_number p b n = (
  walk_to (named.successors (body_of p b)) (successors_of b) (same_successors p b) 0 n,
  walk_from (named.successors (body_of p b)) (successors_of b) (same_successors p b) 0 n,
)

-- ---- what is read

module _ (p : Program) (b : Body) (r : ℕ) where
  -- the instruction of a form
  record IsOf (n : ℕ) (f : Form) : Type 0 where
    insn : Insn
    has_insn : numbered.insn_at b n ≡ Some insn
    same : form_of p insn ≡ f

  insn_for : (n : ℕ) (f : Form) → named.form_at (body_of p b) n ≡ Some f → IsOf n f
  insn_for n f e = by (slice_get b.insns n) refl (sym (form_there p b n) ∙ e)
    where
      by : (o : Option Insn) → slice_get b.insns n ≡ o → ◌≡◌ {A = Option Form} (option_map (form_of p) o) (Some f) → IsOf n f
      by None h x = absurd (cc)
      by (Some i) h x = record { insn = i; has_insn = h; same = (let y : ◌≡◌ {A = Option Form} (Some (form_of p i)) (Some f) = x in cc) }

  form_for : (n : ℕ) (i : Insn) → numbered.insn_at b n ≡ Some i → named.form_at (body_of p b) n ≡ Some (form_of p i)
  form_for n i e = form_there p b n ∙ ap (option_map (form_of p)) e

  read_to : (n k : ℕ) → named.IsReadAt (body_of p b) r n k → numbered.IsReadAt b r n k
  read_to n k (named.Here m f e h) =
      let w = insn_for n f e in
      numbered.Here n w.insn w.has_insn (sym (same_reads p w.insn r) ∙ ap (λ (g : Form). reads g r) w.same ∙ h)
  read_to n k (named.Onward m l j f e h c rest) =
      let w = insn_for n f e in
      numbered.Onward n l k w.insn w.has_insn (sym (same_writes p w.insn r) ∙ ap (λ (g : Form). writes g r) w.same ∙ h)
      (subst (λ (s : List ℕ). Contains s l) (ap (λ (g : Form). named.onward g n) (sym w.same) ∙ same_onward p w.insn n) c) (read_to l k rest)
  read_to n k (named.Caught m l j f e c rest) =
      let w = insn_for n f e in
      numbered.Caught n l k w.insn w.has_insn (subst (λ (s : List ℕ). Contains s l) (ap (λ (g : Form). named.caught (body_of p b) g n) (sym w.same) ∙ same_caught p b w.insn n) c) (read_to l k rest)

  read_from : (n k : ℕ) → numbered.IsReadAt b r n k → named.IsReadAt (body_of p b) r n k
  read_from n k (numbered.Here m i e h) = named.Here n (form_of p i) (form_for n i e) (same_reads p i r ∙ h)
  read_from n k (numbered.Onward m l j i e h c rest) =
      named.Onward n l k (form_of p i) (form_for n i e) (same_writes p i r ∙ h) (subst (λ (s : List ℕ). Contains s l) (sym (same_onward p i n)) c) (read_from l k rest)
  read_from n k (numbered.Caught m l j i e c rest) =
      named.Caught n l k (form_of p i) (form_for n i e) (subst (λ (s : List ℕ). Contains s l) (sym (same_caught p b i n)) c) (read_from l k rest)

pub read_by_number : IsReadByNumber
read_by_number p b r n = ((λ w. (w.0, read_to p b r n w.0 w.1)), (λ w. (w.0, read_from p b r n w.0 w.1)))

pub read_after_by_number : IsReadAfterByNumber
read_after_by_number p b r n = (
  (λ w. (w.0, subst (λ (s : List ℕ). Contains s w.0) (same_successors p b n) w.1, (read_by_number p b r w.0).0 w.2)),
  (λ w. (w.0, subst (λ (s : List ℕ). Contains s w.0) (sym (same_successors p b n)) w.1, (read_by_number p b r w.0).1 w.2)),
)
