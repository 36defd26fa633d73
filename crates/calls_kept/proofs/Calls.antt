-- A call that names another method by number does so by name, for the reasons that it has by number.
use Rattle.std.proofs.Common.{◌≡◌, ◌⊎◌, inl, inr, ℕ, zero, suc, ◌<◌, Bool, true, false, true≢false, List, [], ◌∷◌, ◌++◌, length, Option, Some, None, nat_eq, refl, sym, ap, ap₂, ◌∙◌, subst, arith}
use Rattle.std.specs.Prelude.{◌&&◌, not, cond, flat_map, is_some, slice_get, option_and_then, if◌then◌else◌, Contains, codes}
use Rattle.std.specs.List.{list_any}
use Rattle.std.specs.Option.{option_map, option_or}
use Rattle.std.proofs.lemmas.Bool.{eq-eqb}
use Rattle.insn_set.specs.declared.form.Insn.{Insn}
use Rattle.insn_set.specs.declared.form.Insn.TheVariants as insn
use Rattle.insn_set.specs.declared.ops.InvokeKind.{InvokeKind}
use Rattle.insn_set.specs.declared.ops.InvokeKind.TheVariants as call
use Rattle.program_model.specs.declared.body.Body.{Body}
use Rattle.program_model.specs.declared.pools.MethodName.{MethodName}
use Rattle.program_model.specs.declared.program.Class.{Class}
use Rattle.program_model.specs.declared.program.Method.{Method}
use Rattle.program_model.specs.declared.program.MethodAt.{MethodAt}
use Rattle.program_model.specs.declared.program.Program.{Program}
use Rattle.program_model.specs.Lookups as look
use Rattle.program_model.specs.ProgramRules.{is_well_formed}
use Rattle.class_defs.specs.ClassGraph.{IsAncestor, IsTwice}
use Rattle.class_defs.specs.Finding.{by_entry, first_among, interfaces_from, resolution_of, resolves_method}
use Rattle.class_defs.specs.Members.{is_interface, is_virtual, own_method, virtual_only}
use Rattle.class_defs.specs.Places.{above_places, is_under, walks, chain_from, chain_of, interface_places, super_place}
use Rattle.class_defs.proofs.WellFormed.{Sound, sound}
use Rattle.dalvik_defs.proofs.Calm.{text_sound}
use Rattle.dalvik_defs.specs.Find.{Found, found_in, is_virtual_method}
use Rattle.dalvik_defs.specs.Flags as flags
use Rattle.dalvik_defs.specs.Names.{Text, is_class_type, is_word, is_array}
use Rattle.dalvik_defs.specs.Naming.{type_at, form_of, named, named_class, named_method}
use Rattle.dalvik_defs.specs.Naming as naming
use Rattle.dalvik_defs.specs.Silence.{key_in}
use Rattle.dalvik_defs.specs.Under.{is_own_under}
use Rattle.dalvik_defs.specs.declared.forms.Form.{Form}
use Rattle.dalvik_defs.specs.declared.names.MethodKey.{MethodKey}
use Rattle.dalvik_defs.specs.declared.program.NamedClass.{NamedClass}
use Rattle.domains.specs.ClassSets.{set_holds}
use Rattle.domains.specs.Datum.{Object}
use Rattle.domains.specs.Values.{Parts, value_holds}
use Rattle.dom_frame.specs.declared.frames.Frame.{Frame}
use Rattle.facts.specs.Lent.{frame_at}
use Rattle.facts.specs.declared.facts.Facts.{Facts}
use Rattle.hierarchy.specs.Shapes.{IsResolved}
use Rattle.hierarchy.specs.declared.build.Hierarchy.{Hierarchy}
use Rattle.lemmas.proofs.Bools.{and_left, and_right, not_true}
use Rattle.lemmas.proofs.Lists.{contains_here, get_map, get_there, got_short}
use Rattle.lemmas.proofs.Options.{before_map, none_some, some_same}
use Rattle.name_bridge.specs.Named.{found_at}
use Rattle.name_bridge.proofs.Above.{Defined, defined}
use Rattle.name_bridge.proofs.Flags.{interface_flag}
use Rattle.name_bridge.proofs.Found.{IsThere, found_there_is, looked_up, virtual_test}
use Rattle.name_bridge.proofs.Resolved.{resolves_by_number}
use Rattle.name_bridge.proofs.Tables.{method_is}
use Rattle.pass_defs.specs.Bindable as named_calls
use Rattle.pass_defs.specs.Demands.{is_constructor_name}
use Rattle.pass_defs.specs.Facts as by_name
use Rattle.pass_defs.specs.Kinds as kinds
use Rattle.pass_defs.specs.Kinds.{is_plain, is_below, is_initialised, fits, fits_array, is_number}
use Rattle.pass_defs.specs.Registers.{Kinds, kind_at}
use Rattle.pass_defs.specs.Typed.{state_at, wrong_method, differ, is_static_call}
use Rattle.run_laws.proofs.Sorts.{class_alone, not_word}
use Rattle.removal_bridge.proofs.Listed.{image, Image}
use Rattle.type_bridge.specs.Views.{kind_named, kinds_named, class_kind, method_table}
use Rattle.type_bridge.proofs.Frames.{at_named}
use Rattle.type_bridge.proofs.Judged.{state_is}
use Rattle.type_bridge.proofs.Order.{class_below, null_below, zero_below, made_named}
use Rattle.type_bridge.proofs.Told.{Told, told}
use Rattle.verify.specs.Flow.{place_at}
use Rattle.verify.specs.Frames as frames
use Rattle.verify.specs.Kinds as number
use Rattle.verify.specs.Methods.{TypesFor}
use Rattle.verify.specs.Typings as typings
use Rattle.verify.specs.Typings.{kind_before}
use Rattle.verify.specs.declared.kinds.Kind.{Kind}
use Rattle.verify.specs.declared.kinds.Kind.TheVariants as kind
use Rattle.verify.specs.declared.tables.Tables.{Tables}
use Rattle.rebind_law.specs.Receivers.{Renames, FindsListed, BoundByPlaces}
use Rattle.rebind_law.specs.Retyping.{Retypes}
use Rattle.rebind_law.specs.Reasons.{BoundByKind, ByFacts, ByKind, Rebound}
use Rattle.receivers.specs.Receiving.{interface_at}
use Rattle.devirt.specs.Binding.{kind_for, is_in_class, receives}
use Rattle.devirt.specs.Measure.{is_virtual_call}
use Rattle.devirt.specs.Rebound.{FindsBoth, FindsByFacts, FindsByKind, IsRebindingOf}
use Rattle.calls_kept.specs.Rebound.{StandsAt, FramesAreNamed}
use Rattle.calls_kept.proofs.Finding.{class_text, own_class, under_named, found_listed, found_type}

-- ---- kinds of calls

virtual_kind : (k : InvokeKind) → is_virtual_call k ≡ true → named_calls.is_virtual_call k ≡ true
virtual_kind call.Virtual e = refl
virtual_kind call.Interface e = refl
virtual_kind call.Static e = absurd (true≢false (sym e))
virtual_kind call.Direct e = absurd (true≢false (sym e))
virtual_kind call.Super e = absurd (true≢false (sym e))

kind_virtual : (b : Bool) → named_calls.is_virtual_call (kind_for b) ≡ true
kind_virtual true = refl
kind_virtual false = refl

kind_not_static : (b : Bool) → is_static_call (kind_for b) ≡ false
kind_not_static true = refl
kind_not_static false = refl

-- ---- the names of virtual methods

not_constructor : (f : ℕ) (n : Text) → flags.is_virtual f n ≡ true → is_constructor_name n ≡ false
not_constructor f n e = by (is_constructor_name n) refl
  where
    special : flags.is_special n ≡ false
    special = not_true (flags.is_special n) (and_right (not (flags.is_static f) && not (flags.is_private f)) (not (flags.is_special n)) e)

    by : (b : Bool) → is_constructor_name n ≡ b → b ≡ false
    by false i = refl
    by true i = absurd (true≢false (sym (ap flags.is_special (text_sound n (codes "<init>") i)) ∙ special))

not_static : (f : ℕ) (n : Text) → flags.is_virtual f n ≡ true → flags.is_static f ≡ false
not_static f n e = not_true (flags.is_static f) (and_left (not (flags.is_static f)) (not (flags.is_private f)) (and_left (not (flags.is_static f) && not (flags.is_private f)) (not (flags.is_special n)) e))

-- ---- a typing by number and by name

got_state : (x : typings.Table) (n : ℕ) (a : frames.Kinds) → place_at x n ≡ Some a → slice_get x n ≡ Some (Some a)
got_state [] n a e = none_some a e
got_state (o ∷ x) zero a e = ap Some e
got_state (o ∷ x) (suc n) a e = got_state x n a e

-- the kind of a register in a state of the typing by name
kind_known : (p : Program) (c : Class) (x : typings.Table) (n on : ℕ) (a : Kinds) → state_at (method_table p c x) n ≡ Some a → kind_at a.registers on ≡ kind_named p (kind_before x n on)
kind_known p c x n on a s =
    let made = kinds.kind_of (named p) (type_at p c.name) in
    let k = before_map (kinds_named p made) (place_at x n) a (sym (state_is p made x n) ∙ s) in
    ap (λ (a : Kinds). kind_at a.registers on) (sym k.1.1) ∙ (at_named p k.0.registers on ∙ ap (λ o. kind_named p (typings.kind_in o on)) (sym (got_state x n k.0 k.1.0)))

-- a class stands under itself
itself_under : (p : Program) (c : ℕ) → is_under p c c ≡ true
itself_under p c = by (length p.classes) (eq-eqb c c refl)
  where
    by : (n : ℕ) → nat_eq c c ≡ true → walks (above_places p) n c c ≡ true
    by zero e = e
    by (suc n) e = ap (λ b. cond b true (list_any (λ u. walks (above_places p) n u c) (above_places p c))) e

-- ---- one call

module _ (p : Program) (h : Hierarchy) (w : is_well_formed p ≡ true) (resolved : IsResolved p h) (ancestor : (class : ℕ) → IsAncestor p class class → ⊥) where
  s : Sound p
  s = sound p w

  once : (class : ℕ) → IsTwice p class → ⊥
  once = resolved.of.once

  module _ (facts : Facts) (x : typings.Table) (class : ℕ) (m : Method) (body : Body) (n : ℕ) (written : Insn) (re : IsRebindingOf p facts x class m.name body n written) where
    abbrev old : MethodName
    old = re.named

    abbrev new : MethodName
    new = re.renamed

    abbrev at : MethodAt
    at = re.at

    -- the class and the method that are found
    record Target : Type 0 where
      there : IsThere p at
      same : there.method ≡ re.is.target

    target : Target
    target = by (slice_get p.classes at.class) refl re.is.there
      where
        by : (o : Option Class) → slice_get p.classes at.class ≡ o → option_and_then (λ (k : Class). slice_get k.methods at.place) o ≡ Some re.is.target → Target
        by None e i = none_some re.is.target i
        by (Some k) e i = record { there = record { class = k; is_class = e; method = re.is.target; is_method = i }; same = refl }

    abbrev tc : Class
    tc = target.there.class

    abbrev tm : Method
    tm = target.there.method

    abbrev found : Found
    found = found_in (named_class p tc) (named_method p tm)

    found_is : found_at p at ≡ Some found
    found_is = found_there_is p at target.there

    coded : found.coded ≡ true
    coded = by tm.body (ap (λ (m : Method). is_some m.body) target.same ∙ re.is.coded)
      where
        by : (o : Option Body) → is_some o ≡ true → is_some (option_map (naming.body_of p) o) ≡ true
        by None e = e
        by (Some b) e = refl

    -- its names
    old_key : naming.method_at p re.call.method ≡ record { class = type_at p old.class; name = naming.text_at p old.name; signature = naming.signature_at p old.proto }
    old_key = method_is p s re.call.method old re.is_named

    new_key : naming.method_at p re.bound.method ≡ record { class = type_at p new.class; name = naming.text_at p new.name; signature = naming.signature_at p new.proto }
    new_key = method_is p s re.bound.method new re.is.entry

    own_found : own_method p new.name new.proto at.class ≡ Some at
    own_found = by (own_method p new.name new.proto at.class) refl re.is.own
      where
        kept : (x : MethodAt) (v : Bool) → own_method p new.name new.proto at.class ≡ Some x → cond v (Some x) None ≡ Some at → own_method p new.name new.proto at.class ≡ Some at
        kept x true i e = i ∙ e
        kept x false i e = none_some at e

        by : (o : Option MethodAt) → own_method p new.name new.proto at.class ≡ o → virtual_only p o ≡ Some at → own_method p new.name new.proto at.class ≡ Some at
        by None i e = none_some at e
        by (Some x) i e = kept x (is_virtual p (look.method_at p x)) i e

    is_virtual_there : is_virtual p (look.method_at p at) ≡ true
    is_virtual_there = by (is_virtual p (look.method_at p at)) refl (sym (ap (virtual_only p) own_found) ∙ re.is.own)
      where
        by : (v : Bool) → is_virtual p (look.method_at p at) ≡ v → cond v (Some at) None ≡ Some at → is_virtual p (look.method_at p at) ≡ true
        by true i e = i
        by false i e = none_some at e

    virtual_found : is_virtual_method (named_method p tm) ≡ true
    virtual_found = virtual_test p tm ∙ (sym (ap (is_virtual p) (looked_up p at target.there)) ∙ is_virtual_there)

    new_name : (naming.method_at p re.bound.method).name ≡ (named_method p tm).name
    new_name = ap (λ (k : MethodKey). k.name) (ap (naming.method_at p) (re.is.method ∙ ap (λ (m : Method). m.name) (sym target.same)))

    ordinary_new : is_constructor_name (naming.method_at p re.bound.method).name ≡ false
    ordinary_new = ap is_constructor_name new_name ∙ not_constructor (named_method p tm).flags (named_method p tm).name virtual_found

    same_name : (naming.method_at p re.call.method).name ≡ (naming.method_at p re.bound.method).name
    same_name = ap (λ (k : MethodKey). k.name) old_key ∙ (ap (naming.text_at p) (sym re.is.name) ∙ sym (ap (λ (k : MethodKey). k.name) new_key))

    ordinary_old : is_constructor_name (naming.method_at p re.call.method).name ≡ false
    ordinary_old = ap is_constructor_name same_name ∙ ordinary_new

    same_signature : (naming.method_at p re.bound.method).signature ≡ (naming.method_at p re.call.method).signature
    same_signature = ap (λ (k : MethodKey). k.signature) new_key ∙ (ap (naming.signature_at p) re.is.proto ∙ sym (ap (λ (k : MethodKey). k.signature) old_key))

    -- the class that the new name is of
    new_class : new.class ≡ tc.name
    new_class = by (slice_get p.classes at.class) refl target.there.is_class
      where
        z : Defined p new.class at.class
        z = defined p new.class at.class re.is.class

        by : (o : Option Class) → slice_get p.classes at.class ≡ o → o ≡ Some tc → new.class ≡ tc.name
        by o e i = sym z.named ∙ ap (λ (k : Class). k.name) (some_same z.class tc (sym z.is ∙ (e ∙ i)))

    new_text : (naming.method_at p re.bound.method).class ≡ type_at p tc.name
    new_text = ap (λ (k : MethodKey). k.class) new_key ∙ ap (type_at p) new_class

    -- it isn't static
    resolves : resolves_method p re.bound.method ≡ Some at
    resolves = ap (by_entry (λ q. first_among (own_method p q.name q.proto) (resolution_of p (look.class_place p q.class)))) re.is.entry
        ∙ (ap (λ o. first_among (own_method p new.name new.proto) (resolution_of p o)) re.is.class ∙ first_of (length p.classes) refl)
      where
        first_of : (n : ℕ) → length p.classes ≡ n → first_among (own_method p new.name new.proto) (resolution_of p (Some at.class)) ≡ Some at
        first_of zero e = absurd (none p.classes at.class tc target.there.is_class e)
          where
            none : (cs : List Class) (k : ℕ) (d : Class) → slice_get cs k ≡ Some d → length cs ≡ 0 → ⊥
            none [] k d i j = none_some d i
            none (x ∷ cs) k d i j = omega (arith, j)
        first_of (suc n) e = ap (λ m. first_among (own_method p new.name new.proto) (chain_from (super_place p) m (Some at.class) ++ interfaces_from (length p.classes) p (flat_map (interface_places p) (chain_of p (Some at.class))))) e
            ∙ ap (λ o. option_or o (first_among (own_method p new.name new.proto) (chain_from (super_place p) n (super_place p at.class) ++ interfaces_from (length p.classes) p (flat_map (interface_places p) (chain_of p (Some at.class)))))) own_found

    right_new : wrong_method (named p) re.bound.kind (naming.method_at p re.bound.method) ≡ false
    right_new = ap (λ o. elim o as (λ o. Bool) [ Some g ↦ differ (is_static_call re.bound.kind) (flags.is_static g.flags) | None ↦ false ]) (resolves_by_number p s re.bound.method (got_short p.methods re.bound.method new re.is.entry) ∙ (ap (option_and_then (found_at p)) resolves ∙ found_is))
        ∙ ap₂ differ (ap is_static_call re.is.kind ∙ kind_not_static (interface_at p at.class)) (not_static (named_method p tm).flags (named_method p tm).name virtual_found)

    -- ---- the receiver fits the new class

    told_of : (x : typings.Table) (a : MethodAt) (y : TypesFor p h a x) → Told p y.verifier.tables
    told_of x a y = told p h y.verifier w resolved.of y.is

    plain_there : (v : Bool) → interface_at p at.class ≡ v → is_plain (named p) (type_at p tc.name) ≡ not v
    plain_there v e = ap (λ o. elim o as (λ o. Bool) [ Some c ↦ not (flags.is_interface c.flags) | None ↦ false ]) (own_class p w once ancestor at.class tc target.there.is_class)
        ∙ ap not (sym (interface_flag tc.flags) ∙ (sym (ap is_interface target.there.is_class) ∙ e))

    fits_class : (k : kinds.Kind) → ((is_plain (named p) (type_at p tc.name) ≡ true → is_below (named p) k (kinds.Class (type_at p tc.name)) ≡ true)) → (is_plain (named p) (type_at p tc.name) ≡ false → is_initialised k ≡ true) → fits (named p) k (type_at p tc.name) ≡ true
    fits_class k low any = by (is_word t) (is_array t) (is_plain (named p) t) (not_word t (class_alone t ordinary).0) (class_alone t ordinary).1 refl
      where
        t : Text
        t = type_at p tc.name

        ordinary : is_class_type (type_at p tc.name) ≡ true
        ordinary = class_text p w once ancestor at.class tc target.there.is_class

        by : (u v x : Bool) → u ≡ false → v ≡ false → is_plain (named p) (type_at p tc.name) ≡ x
            → (if u then is_number k else if v then fits_array (named p) k (type_at p tc.name) else if x then is_below (named p) k (kinds.Class (type_at p tc.name)) else is_initialised k) ≡ true
        by true v x i j e = absurd (true≢false i)
        by false true x i j e = absurd (true≢false j)
        by false false true i j e = low e
        by false false false i j e = any e

    fits_new : (t : Tables) → Told p t → (k : Kind) → receives p k at.class ≡ true → fits (named p) (kind_named p k) (naming.method_at p re.bound.method).class ≡ true
    fits_new t d k e = subst (λ u. fits (named p) (kind_named p k) u ≡ true) (sym new_text) (by (interface_at p at.class) refl e)
      where
        lower : (k : Kind) → is_in_class p k at.class ≡ true → is_below (named p) (kind_named p k) (kinds.Class (type_at p tc.name)) ≡ true
        lower kind.Zero i = zero_below (named p) (kinds.Class (type_at p tc.name)) refl
        lower kind.Null i = null_below (named p) (kinds.Class (type_at p tc.name)) refl (λ z. cc)
        lower (kind.Program l) i = in_class (slice_get p.classes l) refl
          where
            in_class : (o : Option Class) → slice_get p.classes l ≡ o → is_below (named p) (class_kind p (slice_get p.classes l)) (kinds.Class (type_at p tc.name)) ≡ true
            in_class None e = subst (λ o. is_below (named p) (class_kind p o) (kinds.Class (type_at p tc.name)) ≡ true) (sym e) (null_below (named p) (kinds.Class (type_at p tc.name)) refl (λ z. cc))
            in_class (Some k) e = subst (λ z. is_below (named p) (class_kind p (slice_get p.classes l)) z ≡ true) (ap (class_kind p) target.there.is_class)
                (class_below p t d l at.class (d.follows.in_chain l at.class (got_short p.classes l k e) ∙ i) (slice_get p.classes l) refl)
        lower k i = absurd (true≢false (sym i))

        by : (v : Bool) → interface_at p at.class ≡ v → (if v then number.is_initialised k else is_in_class p k at.class) ≡ true → fits (named p) (kind_named p k) (type_at p tc.name) ≡ true
        by true i j = fits_class (kind_named p k) (λ q. absurd (true≢false (sym q ∙ plain_there true i))) (λ q. made_named p t d k j)
        by false i j = fits_class (kind_named p k) (λ q. lower k j) (λ q. absurd (true≢false (sym (plain_there false i) ∙ q)))

    -- ---- what its receivers find

    -- an object of a class of the program finds the method by both names
    finds_both : (j : ℕ) (d : Class) → slice_get p.classes j ≡ Some d → FindsBoth p old new at j → FindsListed (named p) (naming.method_at p re.call.method) (naming.method_at p re.bound.method) found (type_at p d.name)
    finds_both j d e x = record {
      first = found_listed p w once ancestor re.call.method old j d at found re.is_named e found_is x.first;
      second = found_listed p w once ancestor re.bound.method new j d at found re.is.entry e found_is x.second;
    }

    module _ (place : ℕ) (pc : Class) (is_pc : slice_get p.classes place ≡ Some pc) (some : FindsBoth p old new at place) where
      abbrev f : Form
      f = form_of p (insn.Invoke re.call.kind re.call.method (re.on ∷ re.rest))

      abbrev g : Form
      g = form_of p (insn.Invoke re.bound.kind re.bound.method (re.on ∷ re.rest))

      abbrev renames : Renames f g
      renames = record {
        kind = re.call.kind;
        kind' = re.bound.kind;
        old = naming.method_at p re.call.method;
        new = naming.method_at p re.bound.method;
        on = re.on;
        args = re.rest;
        first = refl;
        second = refl;
        virtual = virtual_kind re.call.kind re.virtual;
        virtual' = ap named_calls.is_virtual_call re.is.kind ∙ kind_virtual (interface_at p at.class);
        old_type = found_type p w once ancestor re.call.method old place pc at re.is_named is_pc some.first;
        new_type = found_type p w once ancestor re.bound.method new place pc at re.is.entry is_pc some.second;
        plain_name = ordinary_old;
      }

      module _ (a : MethodAt) (types : TypesFor p h a x) (mc : Class) where
        retypes : (y : Kinds) → state_at (method_table p mc x) n ≡ Some y → Retypes (named p) y f g
        retypes y st = record {
          call = renames;
          ordinary = ordinary_new;
          signature = same_signature;
          right = right_new;
          fits = subst (λ k. fits (named p) k (naming.method_at p re.bound.method).class ≡ true) (sym (kind_known p mc x n re.on y st))
              (fits_new types.verifier.tables (told_of x a types) (kind_before x n re.on) (ap (λ k. receives p k at.class) (sym re.receiver) ∙ re.is.receives));
        }

        by_facts : (t : by_name.Facts Parts) → FramesAreNamed p facts t → (k : MethodKey) → slice_get p.classes class ≡ Some mc → Contains mc.methods m → k ≡ key_in (named_class p mc) (named_method p m)
            → FindsByFacts p facts m.name n re.on old new at → BoundByPlaces (named p) t k n f g
        by_facts t names k is_class in_class is_key y = record {
          call = renames;
          found = found;
          coded = coded;
          places = y.places;
          within = λ z o e holds. in_places o (within z o e holds);
          finds = λ j u i e. in_class_at j u i e;
        }
          where
            held : (z : ℕ → Parts) → t.registers k n ≡ Some z → StandsAt z (Some y.frame)
            held z e = subst (StandsAt z) y.there (names class mc m n z is_class in_class (ap (λ k. t.registers k n) (sym is_key) ∙ e))

            within : (z : ℕ → Parts) (o : Option ℕ) → t.registers k n ≡ Some z → value_holds (z re.on) (Object o) → set_holds (Some y.places) o
            within z o e holds = subst (λ v. set_holds v o) y.classes (held z e re.on (Object o) holds).0

            in_places : (o : Option ℕ) → set_holds (Some y.places) o → (j : ℕ) × ((o ≡ Some j) × Contains y.places j)
            in_places None i = absurd i
            in_places (Some j) i = (j, (refl, i))

            in_class_at : (j : ℕ) (u : NamedClass) → Contains y.places j → slice_get (named p).classes j ≡ Some u → FindsListed (named p) (naming.method_at p re.call.method) (naming.method_at p re.bound.method) found u.name
            in_class_at j u i e = let d = before_map (named_class p) (slice_get p.classes j) u (sym (get_map (named_class p) p.classes j) ∙ e) in
                subst (λ (u : NamedClass). FindsListed (named p) (naming.method_at p re.call.method) (naming.method_at p re.bound.method) found u.name) d.1.1 (finds_both j d.0 d.1.0 (y.finds j i))

        by_kind : FindsByKind p re.call.receiver old new at → BoundByKind (named p) (method_table p mc x) n f g
        by_kind y = in_place (get_there p.classes y.class y.short)
          where
            in_place : (d : Class) × (slice_get p.classes y.class ≡ Some d) → BoundByKind (named p) (method_table p mc x) n f g
            in_place (d, e) = record {
              call = renames;
              found = found;
              coded = coded;
              class = type_at p d.name;
              plain = ap (λ o. elim o as (λ o. Bool) [ Some c ↦ not (flags.is_interface c.flags) | None ↦ false ]) (own_class p w once ancestor y.class d e)
                  ∙ ap not (sym (interface_flag d.flags) ∙ (sym (ap is_interface e) ∙ y.plain));
              known = λ z st. kind_known p mc x n re.on z st ∙ (ap (kind_named p) (sym re.receiver ∙ y.kind) ∙ ap (class_kind p) e);
              finds = λ u i under. in_class_at u i under;
            }
              where
                in_class_at : (u : NamedClass) → Contains (named p).classes u → is_own_under (named p) u.name (type_at p d.name) ≡ true → FindsListed (named p) (naming.method_at p re.call.method) (naming.method_at p re.bound.method) found u.name
                in_class_at u i under = let z : Image (named_class p) p.classes u = image (named_class p) p.classes u i in
                    subst (λ (u : NamedClass). FindsListed (named p) (naming.method_at p re.call.method) (naming.method_at p re.bound.method) found u.name) z.is
                    (finds_both z.place z.entry z.is_entry (y.finds z.place (got_short p.classes z.place z.entry z.is_entry)
                    (sym (under_named p w once ancestor z.place y.class z.entry d z.is_entry e) ∙ (ap (λ (u : NamedClass). is_own_under (named p) u.name (type_at p d.name)) z.is ∙ under))))

  -- ---- what is written at a position

  module _ (used : Type 0) (facts : Facts) (t : by_name.Facts Parts) (names : used → FramesAreNamed p facts t) (uses : (method n : ℕ) (frame : Frame) → frame_at facts.frames.items method n ≡ Some frame → used)
      (x : typings.Table) (at : MethodAt) (types : TypesFor p h at x) (mc : Class) (m : Method) (is_class : slice_get p.classes at.class ≡ Some mc) (in_class : Contains mc.methods m) (body : Body) where
    abbrev key : MethodKey
    key = key_in (named_class p mc) (named_method p m)

    pub rebound_form : (n : ℕ) (i j : Insn) → slice_get body.insns n ≡ Some i → IsRebindingOf p facts x at.class m.name body n j → Rebound used (named p) t (method_table p mc x) key n (form_of p i) (form_of p j)
    rebound_form n i j e y = subst (λ j. Rebound used (named p) t (method_table p mc x) key n (form_of p i) (form_of p j)) (sym y.new)
        (subst (λ i. Rebound used (named p) t (method_table p mc x) key n (form_of p i) (form_of p (insn.Invoke y.bound.kind y.bound.method (y.on ∷ y.rest)))) (some_same (insn.Invoke y.call.kind y.call.method (y.on ∷ y.rest)) i (sym y.form ∙ e)) (by y.finds))
      where
        on_facts : (z : FindsByFacts p facts m.name n y.on y.named y.renamed y.at) (place : ℕ) → Contains z.places place
            → Rebound used (named p) t (method_table p mc x) key n (form_of p (insn.Invoke y.call.kind y.call.method (y.on ∷ y.rest))) (form_of p (insn.Invoke y.bound.kind y.bound.method (y.on ∷ y.rest)))
        on_facts z place inside = let both = z.finds place inside in let d = get_there p.classes place both.short in record {
          reason = ByFacts (uses m.name n z.frame z.there)
              (by_facts facts x at.class m body n j y place d.0 d.1 both at types mc t (names (uses m.name n z.frame z.there)) key is_class in_class refl z);
          retypes = retypes facts x at.class m body n j y place d.0 d.1 both at types mc;
        }

        first_place : (xs : List ℕ) → 0 < length xs → (j : ℕ) × Contains xs j
        first_place [] l = absurd (omega (arith, l))
        first_place (j ∷ xs) l = (j, contains_here j xs)

        by : FindsByFacts p facts m.name n y.on y.named y.renamed y.at ⊎ FindsByKind p y.call.receiver y.named y.renamed y.at
            → Rebound used (named p) t (method_table p mc x) key n (form_of p (insn.Invoke y.call.kind y.call.method (y.on ∷ y.rest))) (form_of p (insn.Invoke y.bound.kind y.bound.method (y.on ∷ y.rest)))
        by (inl z) = let j = first_place z.places z.some in on_facts z j.0 j.1
        by (inr z) = let both = z.finds z.class z.short (itself_under p z.class) in let d = get_there p.classes z.class both.short in record {
          reason = ByKind (by_kind facts x at.class m body n j y z.class d.0 d.1 both at types mc z);
          retypes = retypes facts x at.class m body n j y z.class d.0 d.1 both at types mc;
        }
