-- Calls of the program in which loose methods are static, by what is known of them; and the law: it shows the same.
use Rattle.std.proofs.Common.{◌≡◌, ℕ, zero, suc, Bool, true, false, List, [], ◌∷◌, ◌++◌, length, refl, sym, ap, ◌∙◌, subst}
use Rattle.std.specs.Prelude.{◌&&◌, not, map, filter, find, flat_map, cond, Option, Some, None, is_some}
use Rattle.std.specs.Option.{option_or}
use Rattle.insn_set.specs.declared.ops.InvokeKind.{InvokeKind}
use Rattle.insn_set.specs.declared.ops.InvokeKind.TheVariants as call
use Rattle.dalvik_defs.specs.Names.{Text, text_eq, same_name, is_common}
use Rattle.dalvik_defs.specs.Flags.{is_static, is_interface}
use Rattle.dalvik_defs.specs.Under.{class_named, is_under}
use Rattle.dalvik_defs.specs.Find.{Found, Search, Nothing, Clash, Finds, method_in, chain_of, passing, first_method, search_of, finds_statically, is_virtual_method, own_candidate, interface_named, candidates_from, without_repeats, is_037, candidates, is_lowest, lowest, verdict, finds_among, finds_at, lists_interface, superclass_of, finds_above, finds_super_037, finds_super}
use Rattle.dalvik_defs.specs.Face.{Face, face_of, bodies_of, finds_virtually}
use Rattle.dalvik_defs.specs.Outer.{Outer}
use Rattle.dalvik_defs.specs.Outcome.{takes_no_receiver, receiver}
use Rattle.dalvik_defs.specs.State.{World, Classes, State, On, is_null, kind_of}
use Rattle.dalvik_defs.specs.declared.state.Frame.{Frame}
use Rattle.dalvik_defs.specs.declared.state.Waiting.{Waiting}
use Rattle.dalvik_defs.specs.declared.state.Waiting.TheVariants.{Method}
use Rattle.dalvik_defs.specs.Effect.{register}
use Rattle.dalvik_defs.specs.Stack.{form_at}
use Rattle.dalvik_defs.specs.Quiet.{quiet_within, calm_opening}
use Rattle.dalvik_defs.specs.Step.{step, setting_of}
use Rattle.dalvik_defs.specs.Shown.{Fit, SameShown}
use Rattle.dalvik_defs.specs.Silence.{key_in}
use Rattle.dalvik_defs.specs.declared.names.Signature.{Signature}
use Rattle.dalvik_defs.specs.declared.names.MethodKey.{MethodKey}
use Rattle.dalvik_defs.specs.declared.forms.Form.TheVariants as form
use Rattle.dalvik_defs.specs.declared.script.Move.{Move}
use Rattle.dalvik_defs.specs.declared.program.NamedMethod.{NamedMethod}
use Rattle.dalvik_defs.specs.declared.program.NamedClass.{NamedClass}
use Rattle.dalvik_defs.specs.declared.program.NamedProgram.{NamedProgram}
use Rattle.dalvik_defs.specs.declared.tables.Framework.{Framework}
use Rattle.dalvik_defs.specs.declared.tables.Floats.{Floats}
use Rattle.dalvik_defs.proofs.Calm.{text_sound}
use Rattle.pass_defs.specs.Loose.{new_signature, new_key, staticised}
use Rattle.removal_law.specs.Agree.{Each}
use Rattle.removal_law.specs.Reach.{TellsApart}
use Rattle.removal_law.proofs.Lists.{clash, found_in as found_passes}
use Rattle.program_laws.specs.Renames.{finding_of, face_with, searched, CallAlike, KeepsCall, TurnsCall}
use Rattle.static_law.specs.Static.{renamed, edit_by, IsOld, key, IsSound, IsUnentered, Stands, SiteKnown, StaysAsItIs, BecomesStatic, made_static}
use Rattle.program_laws.proofs.Remade.{some_same, framed_same}
use Rattle.static_law.proofs.LookUps.{some_mapped, method_key, passed_key, new_found, statically_left, statically_moved, virtually_left, super_left}
use Rattle.static_law.proofs.Called.{Called, at_called, first_called, not_empty, search_called, super_called}
use Rattle.static_law.proofs.Faces.{face_same}
use Rattle.static_law.proofs.Bodies.{renamed_loose, unrenamed, renamed_class, renamed_result, bodies_renamed, initialisers_kept}
use Rattle.removal_law.proofs.Declared.{name_same}
use Rattle.static_law.proofs.Declared.{declared_alike}
use Rattle.program_laws.proofs.Programs.{renamed_shown}

-- ---- calls

module _ (p : NamedProgram) (loose : MethodKey → Bool) (f : Framework) (sound : IsSound p loose) where
  abbrev q : NamedProgram
  q = staticised p loose

  abbrev F : Face
  F = face_of p f

  abbrev G : Face
  G = face_with F (finding_of (face_of q f))

  abbrev virtual_if : Bool → Search → Search
  virtual_if b s = elim b as (λ b. Search) [ true ↦ s | false ↦ Nothing ]

  pub virtually_same : (t : Text) (k : MethodKey) → IsOld loose k.name k.signature → ((g : Found) → finds_virtually p f t k ≡ Finds g → loose g.key ≡ false) → finds_virtually q f t k ≡ finds_virtually p f t k
  virtually_same t k old h =
      ap (λ b. virtual_if (b && is_under q f t k.class) (finds_at q t k)) (some_same (made_static p loose) p t)
      ∙ ap (λ u. virtual_if (is_some (class_named p t) && u t k.class) (finds_at q t k)) (framed_same (made_static p loose) p f)
      ∙ by (is_some (class_named p t) && is_under p f t k.class) h
    where
      by : (b : Bool) → ((g : Found) → virtual_if b (finds_at p t k) ≡ Finds g → loose g.key ≡ false) → virtual_if b (finds_at q t k) ≡ virtual_if b (finds_at p t k)
      by true h = virtually_left p loose sound.inner t k old h
      by false h = refl

  virtually_called : (t : Text) (k : MethodKey) (g : Found) → finds_virtually p f t k ≡ Finds g → Called k.name k.signature g
  virtually_called t k g e = by (is_some (class_named p t) && is_under p f t k.class) e
    where
      by : (b : Bool) → virtual_if b (finds_at p t k) ≡ Finds g → Called k.name k.signature g
      by true e = at_called p t k g e
      by false e = clash false (ap (λ s. elim s as (λ s. Bool) [ Nothing ↦ false | Clash ↦ false | Finds g ↦ true ]) e) refl

  statically_called : (k : MethodKey) (g : Found) → finds_statically p k ≡ Finds g → Called k.name k.signature g
  statically_called k g e = search_called k.name k.signature (first_method (λ m. true) k.name k.signature (chain_of p k.class)) (first_called (λ m. true) k.name k.signature (chain_of p k.class)) g e

  searched_same : (class : Text) (kind : InvokeKind) (t : Text) (k : MethodKey) → IsOld loose k.name k.signature → ((g : Found) → searched F class kind t k ≡ Finds g → loose g.key ≡ false) → searched G class kind t k ≡ searched F class kind t k
  searched_same class call.Static t k old h = statically_left p loose k old h
  searched_same class call.Direct t k old h = statically_left p loose k old h
  searched_same class call.Super t k old h = super_left p loose sound.inner class k old h
  searched_same class call.Virtual t k old h = virtually_same t k old h
  searched_same class call.Interface t k old h = virtually_same t k old h

  searched_called : (class : Text) (kind : InvokeKind) (t : Text) (k : MethodKey) (g : Found) → searched F class kind t k ≡ Finds g → Called k.name k.signature g
  searched_called class call.Static t k g e = statically_called k g e
  searched_called class call.Direct t k g e = statically_called k g e
  searched_called class call.Super t k g e = super_called p class k g e
  searched_called class call.Virtual t k g e = virtually_called t k g e
  searched_called class call.Interface t k g e = virtually_called t k g e

  -- what an old name finds keeps its name
  found_kept : (k : MethodKey) (g : Found) → IsOld loose k.name k.signature → Called k.name k.signature g → loose g.key ≡ false → renamed loose g.key ≡ g.key
  found_kept k g old c l = unrenamed loose g.key l (λ j d i e. clash (same_name j.name (new_signature j) k.name k.signature)
      (subst (λ x. same_name j.name (new_signature j) x k.signature ≡ true) (ap (λ x. x.name) e ∙ c.0)
      (subst (λ x. same_name j.name (new_signature j) j.name x ≡ true) (ap (λ x. x.signature) e ∙ c.1) (name_same j.name (new_signature j))))
      (old j i))

  name_of : (t : Text) (c : NamedClass) → class_named p t ≡ Some c → c.name ≡ t
  name_of t c e = text_sound c.name t (found_passes (λ c. text_eq c.name t) p.classes c e).passes

  module _ (calm : Text → Bool) (stands : (k : MethodKey) → loose k ≡ true → Stands p loose calm k) where
    made : (class : Text) (kind : InvokeKind) (t : Text) (null : Bool) (k j : MethodKey) → loose j ≡ true → (g : Found) → searched F class kind t k ≡ Finds g → g.key ≡ j → g.coded ≡ true → is_static g.flags ≡ false
        → (takes_no_receiver kind ≡ false → null ≡ false) → CallAlike (renamed loose) F G (λ u. calm u ≡ true) class kind t null k (call.Static, new_key j)
    made class kind t null k j l g e i coded receives given =
        let s = stands j l in
        let n = name_of j.class s.class s.named in
        let key_is : key_in s.class s.method ≡ j = method_key s.class j.name j.signature s.method s.defined ∙ ap (λ t. key t j.name j.signature) n in
        let z = not_empty p.classes j.class s.class s.named in
        TurnsCall (new_key j) (record {
          found = g;
          new = new_found p loose j l s.class s.named n (sound.fresh j j.class s.class l s.named) s.method;
          finds = e;
          coded = coded;
          receives = receives;
          given = given;
          named = sym (renamed_loose loose j l) ∙ ap (renamed loose) (sym i);
          finds_new = statically_moved p loose j l s.class s.named n (sound.fresh j j.class s.class l s.named) s.method s.defined z.0 z.1;
          key = ap (λ x. record (new_key j) { class = x.class; name = x.name }) key_is ∙ sym (renamed_loose loose j l) ∙ ap (renamed loose) (sym i);
          still_coded = some_mapped p loose s.method.body ∙ s.coded;
        }) (ap calm n ∙ s.quiet)

    pub site_alike : (class : Text) (kind : InvokeKind) (t : Text) (null : Bool) (k : MethodKey) → SiteKnown p loose f class kind t null k
        → CallAlike (renamed loose) F G (λ u. calm u ≡ true) class kind t null k (edit_by p loose kind k)
    site_alike class kind t null k (StaysAsItIs e old h) = subst (CallAlike (renamed loose) F G (λ u. calm u ≡ true) class kind t null k) (sym e)
        (KeepsCall (record { same = searched_same class kind t k old h; unnamed = λ g i. found_kept k g old (searched_called class kind t k g i) (h g i) }))
    site_alike class kind t null k (BecomesStatic j l e g i d coded receives given) = subst (CallAlike (renamed loose) F G (λ u. calm u ≡ true) class kind t null k) (sym e)
        (made class kind t null k j l g i d coded receives given)

-- ---- the law of methods made static

-- what the framework may not enter, and what is known of calls, in states that a run keeps
pub record SitesKnown (p : NamedProgram) (loose : MethodKey → Bool) (o : Outer) (f : Framework) (a : Floats) (calm : Text → Bool) (script : List Move) (J : State → Type 0) : Type 0 where
  pub unentered : IsUnentered p o loose f
  pub start : J (calm_opening calm script)
  pub keeps : (t : State) → J t → J (step (setting_of p o f a) (bodies_of p) t).0
  pub calls : (w : World) (c : Classes) (g : Frame) (rest : List Waiting) (s : List Move) (kind : InvokeKind) (k : MethodKey) (args : List ℕ)
      → J (On w c (Method g ∷ rest) s) → form_at (bodies_of p) g ≡ Some (form.Invoke kind k args)
      → SiteKnown p loose f g.method.class kind (kind_of w (receiver (map (register g) args))) (is_null (receiver (map (register g) args))) k

pub staticised_shown : (p : NamedProgram) (loose : MethodKey → Bool) (o : Outer) (level : ℕ) (J : Framework → Floats → List Move → State → Type 0)
    → IsSound p loose → TellsApart p → TellsApart (staticised p loose)
    → ((f : Framework) (k : MethodKey) → loose k ≡ true → Stands p loose (quiet_within (face_of p f) level) k)
    → ((f : Framework) (a : Floats) (script : List Move) → Fit p o f script → SitesKnown p loose o f a (quiet_within (face_of p f) level) script (J f a script))
    → SameShown p (staticised p loose) o
staticised_shown p loose o level J sound tells tells' stands known = renamed_shown (renamed loose) (edit_by p loose) p (staticised p loose) o level J
    (λ f. record {
      face = face_same p loose sound f;
      class = renamed_class loose;
      result = renamed_result loose;
      bodies = bodies_renamed p loose sound;
      initialisers = λ t k e. initialisers_kept p loose sound t k e;
    })
    (λ f a script h. let s = known f a script h in record {
      start = s.start;
      declared = declared_alike p loose sound tells tells' o f s.unentered;
      keeps = s.keeps;
      calls = λ w c g rest z kind k args j e. site_alike p loose f sound (quiet_within (face_of p f) level) (stands f) g.method.class kind (kind_of w (receiver (map (register g) args))) (is_null (receiver (map (register g) args))) k (s.calls w c g rest z kind k args j e);
    })
