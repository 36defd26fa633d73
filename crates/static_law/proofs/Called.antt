-- What look-ups find has the name that was asked for.
use Rattle.std.proofs.Common.{◌≡◌, ℕ, zero, suc, Bool, true, false, List, [], ◌∷◌, ◌++◌, length, refl, sym, ap, ◌∙◌, subst}
use Rattle.std.specs.Prelude.{◌&&◌, not, map, filter, find, flat_map, cond, Option, Some, None, is_some}
use Rattle.std.specs.Option.{option_or}
use Rattle.insn_set.specs.declared.ops.InvokeKind.{InvokeKind}
use Rattle.insn_set.specs.declared.ops.InvokeKind.TheVariants as call
use Rattle.dalvik_defs.specs.Names.{Text, text_eq, same_name, is_common}
use Rattle.dalvik_defs.specs.Flags.{is_static, is_interface}
use Rattle.dalvik_defs.specs.Under.{class_named, is_under}
use Rattle.dalvik_defs.specs.Find.{Found, Search, Nothing, Clash, Finds, method_in, chain_of, passing, first_method, search_of, finds_statically, is_virtual_method, own_candidate, interface_named, candidates_from, without_repeats, is_037, candidates, is_lowest, lowest, verdict, finds_among, finds_at, lists_interface, superclass_of, finds_above, finds_super_037, finds_super}
use Rattle.dalvik_defs.specs.Face.{Face, face_of, bodies_of, finds_virtually}
use Rattle.dalvik_defs.specs.Outer.{Outer}
use Rattle.dalvik_defs.specs.Outcome.{takes_no_receiver, receiver}
use Rattle.dalvik_defs.specs.State.{World, Classes, State, On, is_null, kind_of}
use Rattle.dalvik_defs.specs.declared.state.Frame.{Frame}
use Rattle.dalvik_defs.specs.declared.state.Waiting.{Waiting}
use Rattle.dalvik_defs.specs.declared.state.Waiting.TheVariants.{Method}
use Rattle.dalvik_defs.specs.Effect.{register}
use Rattle.dalvik_defs.specs.Stack.{form_at}
use Rattle.dalvik_defs.specs.Quiet.{quiet_within, calm_opening}
use Rattle.dalvik_defs.specs.Step.{step, setting_of}
use Rattle.dalvik_defs.specs.Shown.{Fit, SameShown}
use Rattle.dalvik_defs.specs.Silence.{key_in}
use Rattle.dalvik_defs.specs.declared.names.Signature.{Signature}
use Rattle.dalvik_defs.specs.declared.names.MethodKey.{MethodKey}
use Rattle.dalvik_defs.specs.declared.forms.Form.TheVariants as form
use Rattle.dalvik_defs.specs.declared.script.Move.{Move}
use Rattle.dalvik_defs.specs.declared.program.NamedMethod.{NamedMethod}
use Rattle.dalvik_defs.specs.declared.program.NamedClass.{NamedClass}
use Rattle.dalvik_defs.specs.declared.program.NamedProgram.{NamedProgram}
use Rattle.dalvik_defs.specs.declared.tables.Framework.{Framework}
use Rattle.dalvik_defs.specs.declared.tables.Floats.{Floats}
use Rattle.dalvik_defs.proofs.Calm.{text_sound}
use Rattle.pass_defs.specs.Loose.{new_signature, new_key, staticised}
use Rattle.removal_law.specs.Agree.{Each}
use Rattle.removal_law.specs.Reach.{TellsApart}
use Rattle.removal_law.proofs.Lists.{clash, found_in as found_passes}
use Rattle.program_laws.specs.Renames.{finding_of, face_with, searched, CallAlike, KeepsCall, TurnsCall}
use Rattle.static_law.specs.Static.{renamed, edit_by, IsOld, key, IsSound, IsUnentered, Stands, SiteKnown, StaysAsItIs, BecomesStatic, made_static}
use Rattle.program_laws.proofs.Remade.{some_same, framed_same}
use Rattle.static_law.proofs.LookUps.{some_mapped, method_key, passed_key, new_found, statically_left, statically_moved, virtually_left, super_left}
use Rattle.static_law.proofs.Faces.{face_same}
use Rattle.static_law.proofs.Bodies.{renamed_loose, unrenamed, renamed_class, renamed_result, bodies_renamed, initialisers_kept}
use Rattle.removal_law.proofs.Declared.{name_same}
use Rattle.static_law.proofs.Declared.{declared_alike}
use Rattle.program_laws.proofs.Programs.{renamed_shown}

abbrev pub Called : Text → Signature → Found → Type 0
Called n g f = (f.key.name ≡ n) × (f.key.signature ≡ g)

by_key : (t n : Text) (g : Signature) (f : Found) → f.key ≡ key t n g → Called n g f
by_key t n g f e = (ap (λ k. k.name) e, ap (λ k. k.signature) e)

pub first_called : (test : NamedMethod → Bool) (n : Text) (g : Signature) (cs : List NamedClass) (f : Found) → first_method test n g cs ≡ Some f → Called n g f
first_called test n g [] f e = clash false (ap is_some e) refl
first_called test n g (c ∷ cs) f e = by (passing test c (method_in c n g)) refl (first_called test n g cs f) e
  where
    by : (o : Option Found) → passing test c (method_in c n g) ≡ o → (first_method test n g cs ≡ Some f → Called n g f) → option_or o (first_method test n g cs) ≡ Some f → Called n g f
    by None d r e = r e
    by (Some x) d r e = by_key c.name n g f (passed_key test c n g (method_in c n g) refl f (d ∙ e))

each_both : {A : Type 0} (P : A → Type 0) (xs ys : List A) → Each P xs → Each P ys → Each P (xs ++ ys)
each_both P [] ys a b = b
each_both P (x ∷ xs) ys a b = (a.0, each_both P xs ys a.1 b)

each_flat : {A B : Type 0} (P : B → Type 0) (f : A → List B) → ((x : A) → Each P (f x)) → (xs : List A) → Each P (flat_map f xs)
each_flat P f h [] = tt
each_flat P f h (x ∷ xs) = each_both P (f x) (flat_map f xs) (h x) (each_flat P f h xs)

each_filter : {A : Type 0} (P : A → Type 0) (test : A → Bool) (xs : List A) → Each P xs → Each P (filter test xs)
each_filter P test [] h = tt
each_filter P test (x ∷ xs) h = by (test x) (each_filter P test xs h.1)
  where
    by : (b : Bool) → Each P (filter test xs) → Each P (cond b (x ∷ filter test xs) (filter test xs))
    by true r = (h.0, r)
    by false r = r

own_called : (n : Text) (g : Signature) (c : NamedClass) → Each (Called n g) (own_candidate n g c)
own_called n g c = by (passing is_virtual_method c (method_in c n g)) refl
  where
    by : (o : Option Found) → passing is_virtual_method c (method_in c n g) ≡ o → Each (Called n g) (elim o as (λ o. List Found) [ Some f ↦ f ∷ [] | None ↦ [] ])
    by None e = tt
    by (Some f) e = (by_key c.name n g f (passed_key is_virtual_method c n g (method_in c n g) refl f e), tt)

candidates_called : (k : ℕ) (p : NamedProgram) (n : Text) (g : Signature) (ts : List Text) → Each (Called n g) (candidates_from k p n g ts)
candidates_called zero p n g ts = tt
candidates_called (suc k) p n g ts = each_flat (Called n g) (λ t. elim (interface_named p t) as (λ o. List Found) [ Some c ↦ own_candidate n g c ++ candidates_from k p n g c.interfaces | None ↦ [] ])
    (λ t. by (candidates_called k p n g) (interface_named p t)) ts
  where
    by : ((ts : List Text) → Each (Called n g) (candidates_from k p n g ts)) → (o : Option NamedClass) → Each (Called n g) (elim o as (λ o. List Found) [ Some c ↦ own_candidate n g c ++ candidates_from k p n g c.interfaces | None ↦ [] ])
    by r None = tt
    by r (Some c) = each_both (Called n g) (own_candidate n g c) (candidates_from k p n g c.interfaces) (own_called n g c) (r c.interfaces)

repeats_called : (P : Found → Type 0) (fs : List Found) → Each P fs → Each P (without_repeats fs)
repeats_called P [] h = tt
repeats_called P (f ∷ fs) h = (h.0, each_filter P (λ g. not (text_eq g.key.class f.key.class)) (without_repeats fs) (repeats_called P fs h.1))

verdict_called : (P : Found → Type 0) (fs : List Found) (f : Found) → Each P fs → verdict fs ≡ Finds f → P f
verdict_called P [] f h e = clash false (ap is_one e) refl
  where
    is_one : Search → Bool
    is_one s = elim s as (λ s. Bool) [ Nothing ↦ false | Clash ↦ false | Finds g ↦ true ]
verdict_called P (x ∷ []) f h e = subst P (ap (λ s. elim s as (λ s. Found) [ Nothing ↦ x | Clash ↦ x | Finds g ↦ g ]) e) h.0
verdict_called P (x ∷ y ∷ fs) f h e = clash false (ap (λ s. elim s as (λ s. Bool) [ Nothing ↦ false | Clash ↦ false | Finds g ↦ true ]) e) refl

among_called : (p : NamedProgram) (ts : List Text) (n : Text) (g : Signature) (f : Found) → finds_among p ts n g ≡ Finds f → Called n g f
among_called p ts n g f e = verdict_called (Called n g) (lowest p (candidates p ts n g)) f
    (each_filter (Called n g) (λ f. f.coded && is_lowest p (candidates p ts n g) f) (candidates p ts n g) (by (is_037 p.version && not (is_common n g)))) e
  where
    by : (b : Bool) → Each (Called n g) (elim b as (λ b. List Found) [ true ↦ without_repeats (candidates_from (length p.classes) p n g ts) | false ↦ [] ])
    by true = repeats_called (Called n g) (candidates_from (length p.classes) p n g ts) (candidates_called (length p.classes) p n g ts)
    by false = tt

pub search_called : (n : Text) (g : Signature) (o : Option Found) → ((f : Found) → o ≡ Some f → Called n g f) → (f : Found) → search_of o ≡ Finds f → Called n g f
search_called n g None h f e = clash false (ap (λ s. elim s as (λ s. Bool) [ Nothing ↦ false | Clash ↦ false | Finds g ↦ true ]) e) refl
search_called n g (Some x) h f e = h f (ap Some (ap (λ s. elim s as (λ s. Found) [ Nothing ↦ x | Clash ↦ x | Finds g ↦ g ]) e))

pub at_called : (p : NamedProgram) (t : Text) (k : MethodKey) (f : Found) → finds_at p t k ≡ Finds f → Called k.name k.signature f
at_called p t k f e = by (first_method is_virtual_method k.name k.signature (chain_of p t)) refl e
  where
    by : (o : Option Found) → first_method is_virtual_method k.name k.signature (chain_of p t) ≡ o
        → elim o as (λ o. Search) [ Some f ↦ Finds f | None ↦ finds_among p (flat_map (λ c. c.interfaces) (chain_of p t)) k.name k.signature ] ≡ Finds f → Called k.name k.signature f
    by None d e = among_called p (flat_map (λ c. c.interfaces) (chain_of p t)) k.name k.signature f e
    by (Some x) d e = first_called is_virtual_method k.name k.signature (chain_of p t) f (d ∙ ap Some (ap (λ s. elim s as (λ s. Found) [ Nothing ↦ x | Clash ↦ x | Finds g ↦ g ]) e))

above_called : (p : NamedProgram) (class : Text) (k : MethodKey) (f : Found) → finds_above p class k ≡ Finds f → Called k.name k.signature f
above_called p class k f e = search_called k.name k.signature (first_method (λ m. true) k.name k.signature (chain_of p (superclass_of p class)))
    (first_called (λ m. true) k.name k.signature (chain_of p (superclass_of p class))) f e

pub super_called : (p : NamedProgram) (class : Text) (k : MethodKey) (f : Found) → finds_super p class k ≡ Finds f → Called k.name k.signature f
super_called p class k f e = by (is_037 p.version) e
  where
    choice : Bool → Search → Search → Search
    choice b x y = elim b as (λ b. Search) [ true ↦ x | false ↦ y ]

    pick : (b : Bool) (x y : Search) → (x ≡ Finds f → Called k.name k.signature f) → (y ≡ Finds f → Called k.name k.signature f) → choice b x y ≡ Finds f → Called k.name k.signature f
    pick true x y a b e = a e
    pick false x y a b e = b e

    new : (o : Option NamedClass) → finds_super_037 p class k o ≡ Finds f → Called k.name k.signature f
    new (Some c) e = pick (is_interface c.flags) (finds_among p (c.name ∷ []) k.name k.signature) (finds_above p class k) (among_called p (c.name ∷ []) k.name k.signature f) (above_called p class k f) e
    new None e = pick (lists_interface p class k.class) Nothing (finds_above p class k) (λ i. clash false (ap (λ s. elim s as (λ s. Bool) [ Nothing ↦ false | Clash ↦ false | Finds g ↦ true ]) i) refl) (above_called p class k f) e

    by : (b : Bool) → choice b (finds_super_037 p class k (class_named p k.class)) (finds_above p class k) ≡ Finds f → Called k.name k.signature f
    by b e = pick b (finds_super_037 p class k (class_named p k.class)) (finds_above p class k) (new (class_named p k.class)) (above_called p class k f) e

-- a list in which something is found isn't empty
pub not_empty : (cs : List NamedClass) (t : Text) (c : NamedClass) → find (λ c. text_eq c.name t) cs ≡ Some c → (n : ℕ) × (length cs ≡ suc n)
not_empty [] t c e = clash false (ap is_some e) refl
not_empty (d ∷ ds) t c e = (length ds, refl)
