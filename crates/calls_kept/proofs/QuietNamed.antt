-- Nops for just what does nothing are, by name, nops for calls of quiet methods whose results nobody takes, and for divisions that
-- write what nobody reads.
use Rattle.std.proofs.Common.{◌≡◌, ◌↔◌, ◌⊎◌, inl, inr, ℕ, zero, suc, ◌+◌, ◌<◌, Bool, true, false, List, [], ◌∷◌, map, Option, Some, None, refl, sym, ap, ◌∙◌, subst, arith}
use Rattle.std.specs.Prelude.{slice_get, Contains}
use Rattle.std.specs.Option.{option_map}
use Rattle.insn_set.specs.declared.form.Insn.{Insn}
use Rattle.insn_set.specs.declared.form.Insn.TheVariants as insn
use Rattle.program_model.specs.ProgramRules.{is_well_formed}
use Rattle.program_model.specs.declared.body.Body.{Body}
use Rattle.program_model.specs.declared.program.Class.{Class}
use Rattle.program_model.specs.declared.program.Method.{Method}
use Rattle.program_model.specs.declared.program.Program.{Program}
use Rattle.class_defs.proofs.WellFormed.{Sound, sound}
use Rattle.dalvik_defs.specs.Naming.{body_of, form_of, named, named_class, named_method}
use Rattle.dalvik_defs.specs.Naming as naming
use Rattle.dalvik_defs.specs.Silence.{key_in}
use Rattle.dalvik_defs.specs.declared.forms.Form.{Form}
use Rattle.dalvik_defs.specs.declared.forms.Form.TheVariants as form
use Rattle.dalvik_defs.specs.declared.names.MethodKey.{MethodKey}
use Rattle.facts.specs.Lent.{frame_at}
use Rattle.lemmas.proofs.Options.{none_some, some_same}
use Rattle.pass_defs.specs.Quiet.{takes_result}
use Rattle.pass_defs.specs.Walks.{form_at}
use Rattle.program_laws.proofs.WellFormed.{well_placed}
use Rattle.run_laws.proofs.Here.{into_map}
use Rattle.program_laws.specs.Others.{OtherBodies}
use Rattle.program_laws.specs.Numbered.{OtherNumberedBodies}
use Rattle.program_laws.proofs.Named.{others_named}
use Rattle.facts_kept.proofs.Numbers.{IsNumber}
use Rattle.facts_kept.proofs.Places.{own_key}
use Rattle.bodies_kept.proofs.Inside.{get_contains}
use Rattle.removal_bridge.proofs.WalkedForms.{form_there}
use Rattle.removal_bridge.proofs.Walked.{read_after_by_number}
use Rattle.quiet_methods.specs.Quiet.{IsCode}
use Rattle.quiet_code.specs.Idle.{DoesNothing, IsIdle}
use Rattle.quiet_code.specs.Idle as number
use Rattle.quiet_code.specs.Quieted.{Frames}
use Rattle.calls_kept.specs.Nopped.{nop_for, body_nopped, QuietedCode, NoCode, Same, Quieted}
use Rattle.calls_kept.proofs.QuietBodies.{nop_at}
use Rattle.thin_laws.specs.Calls.{Gone, IsCallGone, IsSpare, IsEmptied, Empties, SameCode, EmptiedCode}
use Rattle.thin_laws.specs.Calls as law
use Rattle.calls_kept.proofs.Runs.{GoneAt, SpareAt}

-- where an item of a list stands
pub record Stands {A : Type 0} (xs : List A) (x : A) : Type 0 where
  pub place : ℕ
  pub there : slice_get xs place ≡ Some x

pub stands : {A : Type 0} (xs : List A) (x : A) → Contains xs x → Stands xs x
stands [] x h = let l : h.0 < 0 = h.1 in absurd (omega (arith, l))
stands (y ∷ xs) x (zero, l, e) = record { place = 0; there = ap Some e }
stands (y ∷ xs) x (suc n, l, e) = let r = stands xs x (n, omega (arith, l), e) in record { place = suc r.place; there = r.there }

-- whether a result is taken is the same by name
pub same_takes : (p : Program) (o : Option Insn) → takes_result (option_map (form_of p) o) ≡ number.takes_result o
same_takes p None = refl
same_takes p (Some insn.Nop) = refl
same_takes p (Some i) = refl

module _ (p : Program) (fits : is_well_formed p ≡ true) (marks : List Bool) (frames : Frames) where
  abbrev pub gone : Gone
  gone = GoneAt p (sound p fits) marks frames

  abbrev pub spare : Gone
  spare = SpareAt p (sound p fits) frames

  module _ (k : MethodKey) (class : ℕ) (c : Class) (m : Method) (b : Body) (is_class : slice_get p.classes class ≡ Some c) (in_class : Contains c.methods m) (has_code : m.body ≡ Some b)
      (is_key : k ≡ key_in (named_class p c) (named_method p m)) (idle : ℕ → Bool) (are : (n : ℕ) (i : Insn) → slice_get b.insns n ≡ Some i → (idle n ≡ true) ↔ IsIdle p marks (frame_at frames m.name n) b n i) where
    place : Stands c.methods m
    place = stands c.methods m in_class

    code : IsCode p m b
    code = record { at = class; place = place.place; class = c; defines = is_class; there = place.there; coded = has_code }

    number_is : IsNumber p (sound p fits) k m.name
    number_is = subst (λ k. IsNumber p (sound p fits) k m.name) (sym is_key) (own_key p (sound p fits) class place.place c m is_class place.there)

    abbrev after : Body
    after = body_nopped idle b

    goes : (n : ℕ) (i : Insn) → slice_get b.insns n ≡ Some i → DoesNothing p marks (frame_at frames m.name n) b n i
        → (form_of p (nop_for true i) ≡ form.Nop) × (IsCallGone (gone k) (body_of p b) n (form_of p i) ⊎ IsSpare (spare k) (body_of p b) n (form_of p i))
    goes n (insn.Invoke kind callee args) e d = (
      refl,
      inl (record {
        marked = record { method = m; body = b; code = code; is_number = number_is; kind = kind; callee = callee; args = args; there = e; idle = d.1 };
        kind = kind;
        named = naming.method_at p callee;
        args = args;
        call = refl;
        untaken = ap takes_result (form_there p b (n + 1)) ∙ (same_takes p (slice_get b.insns (n + 1)) ∙ d.0);
      }),
    )
    goes n (insn.Binary op to x y) e d = (
      refl,
      inr (record {
        marked = record { method = m; body = b; code = code; is_number = number_is; op = op; to = to; x = x; y = y; there = e; well = d.1 };
        goes_on = refl;
        gives_none = refl;
        unread = λ r w h. d.2.unread r w ((read_after_by_number p b r n).0 h);
      }),
    )
    goes n i e d = absurd d

    in_after : (n : ℕ) → form_at (body_of p after) n ≡ option_map (form_of p) (option_map (nop_for (idle n)) (slice_get b.insns n))
    in_after n = form_there p after n ∙ ap (option_map (form_of p)) (nop_at idle b.insns n)

    forms : (n : ℕ) (x : Form) → form_at (body_of p b) n ≡ Some x
        → (form_at (body_of p after) n ≡ Some x) ⊎ ((form_at (body_of p after) n ≡ Some form.Nop) × (IsCallGone (gone k) (body_of p b) n x ⊎ IsSpare (spare k) (body_of p b) n x))
    forms n x e = by (slice_get b.insns n) refl (sym (form_there p b n) ∙ e)
      where
        by_insn : (i : Insn) → slice_get b.insns n ≡ Some i → (t : Bool) → idle n ≡ t
            → (form_at (body_of p after) n ≡ Some (form_of p i)) ⊎ ((form_at (body_of p after) n ≡ Some form.Nop) × (IsCallGone (gone k) (body_of p b) n (form_of p i) ⊎ IsSpare (spare k) (body_of p b) n (form_of p i)))
        by_insn i at false z = inl (in_after n ∙ (ap (λ t. option_map (form_of p) (option_map (nop_for t) (slice_get b.insns n))) z ∙ ap (λ o. option_map (form_of p) (option_map (nop_for false) o)) at))
        by_insn i at true z = let g = goes n i at ((are n i at).0 z).nothing in
            inr ((in_after n ∙ (ap (λ t. option_map (form_of p) (option_map (nop_for t) (slice_get b.insns n))) z ∙ (ap (λ o. option_map (form_of p) (option_map (nop_for true) o)) at ∙ ap Some g.0))), g.1)

        by : (o : Option Insn) → slice_get b.insns n ≡ o → ◌≡◌ {A = Option Form} (option_map (form_of p) o) (Some x)
            → (form_at (body_of p after) n ≡ Some x) ⊎ ((form_at (body_of p after) n ≡ Some form.Nop) × (IsCallGone (gone k) (body_of p b) n x ⊎ IsSpare (spare k) (body_of p b) n x))
        by None at z = none_some x z
        by (Some i) at z = subst (λ x. (form_at (body_of p after) n ≡ Some x) ⊎ ((form_at (body_of p after) n ≡ Some form.Nop) × (IsCallGone (gone k) (body_of p b) n x ⊎ IsSpare (spare k) (body_of p b) n x)))
            (some_same (form_of p i) x z) (by_insn i at (idle n) refl)

    ends : (n : ℕ) → form_at (body_of p b) n ≡ None → form_at (body_of p after) n ≡ None
    ends n e = in_after n ∙ by (slice_get b.insns n) (sym (form_there p b n) ∙ e)
      where
        by : (o : Option Insn) → ◌≡◌ {A = Option Form} (option_map (form_of p) o) None → ◌≡◌ {A = Option Form} (option_map (form_of p) (option_map (nop_for (idle n)) o)) None
        by None z = refl
        by (Some i) z = absurd (cc)

    emptied : IsEmptied (gone k) (spare k) (body_of p b) (body_of p after)
    emptied = record {
      registers = refl;
      ins = refl;
      regions = refl;
      in_place = well_placed p fits (named_class p c) (named_method p m) (body_of p b) (into_map (named_class p) p.classes c (get_contains p.classes class c is_class)) (into_map (named_method p) c.methods m in_class) (ap (option_map (body_of p)) has_code);
      forms = forms;
      ends = ends;
    }

  named_code : (k : MethodKey) (x y : Option Body) → QuietedCode p marks frames k x y → Empties gone spare k (option_map (body_of p) x) (option_map (body_of p) y)
  named_code k _ _ NoCode = law.NoCode
  named_code k _ _ (Same b) = SameCode (body_of p b)
  named_code k _ _ (Quieted class c m b is_class in_class has_code is_key idle are live live_in) = EmptiedCode (body_of p b) (body_of p (body_nopped idle b)) (emptied k class c m b is_class in_class has_code is_key idle are)

  pub quieted_named : (q : Program) → OtherNumberedBodies (QuietedCode p marks frames) p q → OtherBodies (Empties gone spare) (named p) (named q)
  quieted_named q h = others_named (QuietedCode p marks frames) (Empties gone spare) p named_code q h
