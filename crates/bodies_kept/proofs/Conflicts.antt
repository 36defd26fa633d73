-- Conflicts by number and by name.
use Rattle.std.proofs.Common.{◌≡◌, ℕ, List, Option, Some, None, Contains, refl, sym, ap, ap₂, ◌∙◌, subst}
use Rattle.std.specs.Prelude.{◌&&◌}
use Rattle.std.specs.Option.{option_map}
use Rattle.insn_set.specs.declared.form.Insn.{Insn}
use Rattle.program_model.specs.declared.body.Body.{Body}
use Rattle.program_model.specs.declared.program.Program.{Program}
use Rattle.dalvik_defs.specs.declared.forms.Form.{Form}
use Rattle.dalvik_defs.specs.Naming.{form_of, body_of}
use Rattle.pass_defs.specs.Bare.{writes}
use Rattle.pass_defs.specs.Walks as walks
use Rattle.body_graph.specs.Walks.{insn_at}
use Rattle.compact.specs.Packed as numbered
use Rattle.pass_defs.specs.Packed as named
use Rattle.removal_bridge.proofs.WalkedForms.{same_writes, same_onward, form_there}
use Rattle.removal_bridge.proofs.Walked.{read_by_number}

-- the instruction of a form
pub record IsOf (p : Program) (b : Body) (n : ℕ) (f : Form) : Type 0 where
  pub insn : Insn
  pub has_insn : insn_at b n ≡ Some insn
  pub same : form_of p insn ≡ f

pub insn_for : (p : Program) (b : Body) (n : ℕ) (f : Form) → walks.form_at (body_of p b) n ≡ Some f → IsOf p b n f
insn_for p b n f e = by (insn_at b n) refl (sym (form_there p b n) ∙ e)
  where
    by : (o : Option Insn) → insn_at b n ≡ o → ◌≡◌ {A = Option Form} (option_map (form_of p) o) (Some f) → IsOf p b n f
    by None h x = absurd (cc)
    by (Some i) h x = record { insn = i; has_insn = h; same = (let y : ◌≡◌ {A = Option Form} (Some (form_of p i)) (Some f) = x in cc) }

module _ (p : Program) (b : Body) where
  pub form_for : (n : ℕ) (i : Insn) → insn_at b n ≡ Some i → walks.form_at (body_of p b) n ≡ Some (form_of p i)
  form_for n i e = form_there p b n ∙ ap (option_map (form_of p)) e

  clobbers_to : (r s : ℕ) → named.Clobbers (body_of p b) r s → numbered.Clobbers b r s
  clobbers_to r s c =
      let w : IsOf p b c.position c.form = insn_for p b c.position c.form c.has_form in
      record {
        position = c.position;
        form = w.insn;
        next = c.next;
        has_form = w.has_insn;
        writes_it = sym (same_writes p w.insn r) ∙ ap (λ f. writes f r) w.same ∙ c.writes_it;
        goes = subst (λ (l : List ℕ). Contains l c.next) (ap (λ f. walks.onward f c.position) (sym w.same) ∙ same_onward p w.insn c.position) c.goes;
        read = (read_by_number p b s c.next).0 c.read;
      }

  clobbers_from : (r s : ℕ) → numbered.Clobbers b r s → named.Clobbers (body_of p b) r s
  clobbers_from r s c = record {
    position = c.position;
    form = form_of p c.form;
    next = c.next;
    has_form = form_for c.position c.form c.has_form;
    writes_it = same_writes p c.form r ∙ c.writes_it;
    goes = subst (λ (l : List ℕ). Contains l c.next) (sym (same_onward p c.form c.position)) c.goes;
    read = (read_by_number p b s c.next).1 c.read;
  }

  pub conflict_to : (r s : ℕ) → named.Conflict (body_of p b) r s → numbered.Conflict b r s
  conflict_to r s (named.First c) = numbered.First (clobbers_to r s c)
  conflict_to r s (named.Second c) = numbered.Second (clobbers_to s r c)
  conflict_to r s (named.Both n f h e) =
      let w : IsOf p b n f = insn_for p b n f h in
      numbered.Both n w.insn w.has_insn (ap₂ (λ x y. x && y) (sym (same_writes p w.insn r) ∙ ap (λ g. writes g r) w.same) (sym (same_writes p w.insn s) ∙ ap (λ g. writes g s) w.same) ∙ e)

  pub conflict_from : (r s : ℕ) → numbered.Conflict b r s → named.Conflict (body_of p b) r s
  conflict_from r s (numbered.First c) = named.First (clobbers_from r s c)
  conflict_from r s (numbered.Second c) = named.Second (clobbers_from s r c)
  conflict_from r s (numbered.Both n i h e) = named.Both n (form_of p i) (form_for n i h) (ap₂ (λ x y. x && y) (same_writes p i r) (same_writes p i s) ∙ e)
