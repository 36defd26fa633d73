-- The instruction of a form, and what a body copies and spoils, by number and by name.
use Rattle.std.proofs.Common.{◌≡◌, ℕ, Bool, true, false, List, Option, Some, None, nat_eq, Contains, refl, sym, ap, ◌∙◌, subst}
use Rattle.std.specs.Prelude.{◌&&◌, not}
use Rattle.std.specs.Option.{option_map}
use Rattle.std.specs.List.{list_any}
use Rattle.std.proofs.lemmas.Bool.{eqb-true, eq-eqb}
use Rattle.insn_set.specs.Registers.{in_operand, reads_of, writes_of}
use Rattle.insn_set.specs.Widths.{is_wide_slot}
use Rattle.insn_set.specs.declared.ops.Slot.{Slot}
use Rattle.insn_set.specs.declared.form.Insn.{Insn}
use Rattle.insn_set.specs.declared.form.Insn.TheVariants as insn
use Rattle.program_model.specs.declared.body.Body.{Body}
use Rattle.program_model.specs.declared.program.Program.{Program}
use Rattle.dalvik_defs.specs.declared.forms.Form.{Form}
use Rattle.dalvik_defs.specs.declared.forms.Form.TheVariants as form
use Rattle.dalvik_defs.specs.Naming.{form_of, body_of}
use Rattle.insn_regs.specs.Wides.{widths_of}
use Rattle.insn_regs.specs.Wides as wide
use Rattle.pass_defs.specs.Bare.{reads, writes}
use Rattle.pass_defs.specs.Packed.{wides_read}
use Rattle.pass_defs.specs.Walks as walks
use Rattle.body_graph.specs.Walks.{insn_at}
use Rattle.pass_defs.specs.Stale as named
use Rattle.copy_prop.specs.Stale as numbered
use Rattle.removal_bridge.proofs.WalkedForms.{same_reads, same_writes, same_onward, same_successors, form_there}
use Rattle.removal_bridge.proofs.Walked.{reached_by_number}
use Rattle.bodies_kept.proofs.Widths.{wides_by_number}

-- ---- the instruction of a form

pub record IsOf (p : Program) (b : Body) (n : ℕ) (f : Form) : Type 0 where
  pub insn : Insn
  pub has_insn : insn_at b n ≡ Some insn
  pub same : form_of p insn ≡ f

pub insn_for : (p : Program) (b : Body) (n : ℕ) (f : Form) → walks.form_at (body_of p b) n ≡ Some f → IsOf p b n f
insn_for p b n f e = by (insn_at b n) refl (sym (form_there p b n) ∙ e)
  where
    by : (o : Option Insn) → insn_at b n ≡ o → ◌≡◌ {A = Option Form} (option_map (form_of p) o) (Some f) → IsOf p b n f
    by None h x = absurd (cc)
    by (Some i) h x = record { insn = i; has_insn = h; same = (let y : ◌≡◌ {A = Option Form} (Some (form_of p i)) (Some f) = x in cc) }

pub form_for : (p : Program) (b : Body) (n : ℕ) (i : Insn) → insn_at b n ≡ Some i → walks.form_at (body_of p b) n ≡ Some (form_of p i)
form_for p b n i e = form_there p b n ∙ ap (option_map (form_of p)) e

pub no_form : (p : Program) (b : Body) (n : ℕ) → walks.form_at (body_of p b) n ≡ None → insn_at b n ≡ None
no_form p b n e = by (insn_at b n) (sym (form_there p b n) ∙ e)
  where
    by : (o : Option Insn) → ◌≡◌ {A = Option Form} (option_map (form_of p) o) None → o ≡ None
    by None h = refl
    by (Some i) h = absurd (cc)

pub no_insn : (p : Program) (b : Body) (n : ℕ) → insn_at b n ≡ None → walks.form_at (body_of p b) n ≡ None
no_insn p b n e = form_there p b n ∙ ap (option_map (form_of p)) e

-- a Move's form is that of a Move
pub move_of : (p : Program) (i : Insn) (slot : Slot) (to from : ℕ) → form_of p i ≡ form.Move slot to from → i ≡ insn.Move slot to from
move_of p (insn.Move s t f) slot to from e = cc
move_of p insn.Nop slot to from e = absurd (cc)
move_of p i slot to from e = absurd (cc)

-- ---- tests

pub casts_same : (p : Program) (i : Insn) (r : ℕ) → named.casts (form_of p i) r ≡ numbered.casts i r
casts_same p (insn.CheckCast on kind) r = turned on r
  where
    turned : (m n : ℕ) → nat_eq m n ≡ nat_eq n m
    turned m n = by (nat_eq m n) (nat_eq n m) refl refl
      where
        by : (x y : Bool) → nat_eq m n ≡ x → nat_eq n m ≡ y → x ≡ y
        by true true e f = refl
        by false false e f = refl
        by true false e f = sym (sym f ∙ eq-eqb n m (sym (eqb-true m n e)))
        by false true e f = sym e ∙ eq-eqb m n (sym (eqb-true n m f))
casts_same p insn.Nop r = refl
casts_same p i r = refl

pub cast_same : (p : Program) (i : Insn) → named.is_cast (form_of p i) ≡ numbered.is_cast i
cast_same p insn.Nop = refl
cast_same p i = refl

abbrev pub as_wide : Bool → Bool → List ℕ → ℕ → Bool
as_wide v reads ws r = elim v [ true ↦ list_any (nat_eq r) ws | false ↦ reads && not (list_any (λ at. in_operand true at r) ws) ]

pub reads_as_same : (p : Program) (slot : Slot) (i : Insn) (r : ℕ) → named.reads_as slot (form_of p i) r ≡ wide.reads_as (widths_of p) slot i r
reads_as_same p slot i r = ap (λ x. as_wide (is_wide_slot slot) x (wides_read (form_of p i)) r) (same_reads p i r) ∙ ap (λ ws. as_wide (is_wide_slot slot) (reads_of i r) ws r) (wides_by_number p i)

-- ---- what is spoilt

module _ (p : Program) (b : Body) (at : ℕ) (slot : Slot) (to from : ℕ) where
  pub spoilt_to : (n : ℕ) → named.IsSpoilt (body_of p b) at slot to from n → numbered.IsSpoilt b at slot to from n
  spoilt_to _ named.Begins = numbered.Begins
  spoilt_to _ (named.Stays n m e s c) = numbered.Stays n m e (spoilt_to n s) (subst (λ (l : List ℕ). Contains l m) (same_successors p b n) c)
  spoilt_to _ (named.Written n m r f e d h t c) =
      let w : IsOf p b n f = insn_for p b n f h in
      let u : (numbered.in_either slot to from r && writes_of w.insn r) ≡ true = ap (λ x. numbered.in_either slot to from r && x) (sym (same_writes p w.insn r) ∙ ap (λ g. writes g r) w.same) ∙ t in
      numbered.Written n m r w.insn e ((reached_by_number p b n).0 d) w.has_insn u (subst (λ (l : List ℕ). Contains l m) (ap (λ g. walks.onward g n) (sym w.same) ∙ same_onward p w.insn n) c)
  spoilt_to _ (named.Cast n m r f d h t c) =
      let w : IsOf p b n f = insn_for p b n f h in
      let u : (numbered.in_either slot to from r && numbered.casts w.insn r) ≡ true = ap (λ x. numbered.in_either slot to from r && x) (sym (casts_same p w.insn r) ∙ ap (λ g. named.casts g r) w.same) ∙ t in
      numbered.Cast n m r w.insn ((reached_by_number p b n).0 d) w.has_insn u (subst (λ (l : List ℕ). Contains l m) (same_successors p b n) c)

  pub spoilt_from : (n : ℕ) → numbered.IsSpoilt b at slot to from n → named.IsSpoilt (body_of p b) at slot to from n
  spoilt_from _ numbered.Begins = named.Begins
  spoilt_from _ (numbered.Stays n m e s c) = named.Stays n m e (spoilt_from n s) (subst (λ (l : List ℕ). Contains l m) (sym (same_successors p b n)) c)
  spoilt_from _ (numbered.Written n m r i e d h t c) =
      named.Written n m r (form_of p i) e ((reached_by_number p b n).1 d) (form_for p b n i h) (ap (λ x. named.in_either slot to from r && x) (same_writes p i r) ∙ t) (subst (λ (l : List ℕ). Contains l m) (sym (same_onward p i n)) c)
  spoilt_from _ (numbered.Cast n m r i d h t c) =
      named.Cast n m r (form_of p i) ((reached_by_number p b n).1 d) (form_for p b n i h) (ap (λ x. named.in_either slot to from r && x) (casts_same p i r) ∙ t) (subst (λ (l : List ℕ). Contains l m) (sym (same_successors p b n)) c)
