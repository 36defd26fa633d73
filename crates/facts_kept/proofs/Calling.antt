-- What a static, direct or super call may enter by names it may enter by number, and it may leave the program by number where it finds
-- a method without code.
use Rattle.std.proofs.Common.{◌≡◌, ℕ, ◌<◌, true, false, true≢false, List, length, Option, Some, None, refl, sym, ap, ◌∙◌, subst}
use Rattle.std.specs.Prelude.{is_some, slice_get, option_and_then}
use Rattle.insn_set.specs.declared.ops.InvokeKind.{InvokeKind}
use Rattle.insn_set.specs.declared.ops.InvokeKind.TheVariants as call
use Rattle.program_model.specs.Lookups as look
use Rattle.program_model.specs.declared.body.Body.{Body}
use Rattle.program_model.specs.declared.program.Class.{Class}
use Rattle.program_model.specs.declared.program.Method.{Method}
use Rattle.program_model.specs.declared.program.MethodAt.{MethodAt}
use Rattle.program_model.specs.declared.program.Program.{Program}
use Rattle.class_defs.specs.ClassGraph.{IsTwice}
use Rattle.class_defs.specs.Finding as look_up
use Rattle.class_defs.specs.Finding.{finds_static, finds_super, search_of}
use Rattle.class_defs.proofs.WellFormed.{Sound, class_parts}
use Rattle.dalvik_defs.specs.Face.{bodies_of}
use Rattle.dalvik_defs.specs.Find as find
use Rattle.dalvik_defs.specs.Find.{Found, found_in, method_in}
use Rattle.dalvik_defs.specs.Naming.{method_at, named, named_class, named_method, type_at}
use Rattle.dalvik_defs.specs.Outer.{Outer}
use Rattle.dalvik_defs.specs.declared.names.MethodKey.{MethodKey}
use Rattle.dalvik_defs.specs.declared.program.NamedMethod.{NamedMethod}
use Rattle.name_bridge.specs.Named as names
use Rattle.name_bridge.specs.Named.{search_at}
use Rattle.name_bridge.proofs.Above.{own_place}
use Rattle.name_bridge.proofs.Candidates.{coded_test}
use Rattle.name_bridge.proofs.Found.{found_parts, found_there_is, looked_up}
use Rattle.name_bridge.proofs.Resolved.{static_by_number, super_by_number}
use Rattle.removal_bridge.proofs.Members.{class_known, method_known}
use Rattle.domains.specs.Values.{Parts}
use Rattle.call_targets.specs.declared.table.Targets.{Targets}
use Rattle.closed_facts.specs.Found as number
use Rattle.run_facts.specs.Closed as name
use Rattle.facts_kept.specs.Names.{is_coded, values}
use Rattle.facts_kept.proofs.Numbers.{IsNumber}
use Rattle.facts_kept.proofs.Places.{own_key}
use Rattle.facts_kept.proofs.Standing.{bound_there}

module _ (p : Program) (s : Sound p) (once : (class : ℕ) → IsTwice p class → ⊥) where
  -- a method that a look-up finds, by its number
  pub record FoundNumber (at : MethodAt) (g : Found) : Type 0 where
    pub method : Method
    pub there : look.method_at p at ≡ Some method
    pub is_number : IsNumber p s g.key method.name
    pub coded : is_some method.body ≡ g.coded
    pub has_code : is_coded p g.key ≡ g.coded

  -- the code under the name of a method is its own
  own_code : (i j : ℕ) (c : Class) (m : Method) → slice_get p.classes i ≡ Some c → slice_get c.methods j ≡ Some m
      → bodies_of (named p) (record { class = type_at p c.name; name = (named_method p m).name; signature = (named_method p m).signature }) ≡ (named_method p m).body
  own_code i j c m e f =
      ap (λ o. option_and_then (λ m. m.body) (elim o as (λ o. Option NamedMethod) [ Some d ↦ method_in d (named_method p m).name (named_method p m).signature | None ↦ None ])) (class_known p s once i c e)
      ∙ ap (λ o. option_and_then (λ m. m.body) o) (method_known p s i c e j m f)

  pub found_number : (at : MethodAt) (g : Found) → names.found_at p at ≡ Some g → FoundNumber at g
  found_number at g e =
      let x = found_parts p at g e in
      let c = x.there.class in
      let m = x.there.method in
      let coded : is_some m.body ≡ g.coded = sym (coded_test p m.body) ∙ ap (λ g. g.coded) (sym x.found) in
      record {
        method = m;
        there = looked_up p at x.there;
        is_number = subst (λ g. IsNumber p s g.key m.name) (sym x.found) (own_key p s at.class at.place c m x.there.is_class x.there.is_method);
        coded = coded;
        has_code = ap (λ g. is_coded p g.key) x.found ∙ ap is_some (own_code at.class at.place c m x.there.is_class x.there.is_method) ∙ ap (λ g. g.coded) (sym x.found);
      }

  -- what a look-up by number answers, where the one by names finds a method
  pub record Place (y : look_up.Search) (g : Found) : Type 0 where
    pub at : MethodAt
    pub is : y ≡ look_up.Finds at
    pub there : names.found_at p at ≡ Some g

  pub place_of : (y : look_up.Search) (g : Found) → search_at p y ≡ find.Finds g → Place y g
  place_of look_up.Nothing g e = absurd (cc)
  place_of look_up.Clash g e = absurd (cc)
  place_of (look_up.Finds at) g e = by (names.found_at p at) refl e
    where
      by : (o : Option Found) → names.found_at p at ≡ o → names.finds o ≡ find.Finds g → Place (look_up.Finds at) g
      by None i h = absurd (cc)
      by (Some f) i h = let same : f ≡ g = cc in record { at = at; is = refl; there = i ∙ ap Some same }

  -- ---- bound calls

  module _ (targets : Targets) where
    -- a call by number may enter what a call by names does
    pub record Enters (class method : ℕ) (kind : InvokeKind) (g : Found) : Type 0 where
      pub own : ℕ
      pub is_number : IsNumber p s g.key own
      pub may : number.MayCall p targets class method kind own g.coded
      pub has_code : is_coded p g.key ≡ g.coded

    -- a call by number may enter a method that a call by names finds, where that has code, and may leave the program, where it has none
    pub record Goes (class method : ℕ) (kind : InvokeKind) (g : Found) : Type 0 where
      pub has_code : is_coded p g.key ≡ g.coded
      pub enters : g.coded ≡ true → Enters class method kind g
      pub leaves : g.coded ≡ false → number.MayLeave p targets class method kind

    pub no_body : (m : Method) → is_some m.body ≡ false → m.body ≡ None
    no_body m e = by m.body e
      where
        by : (o : Option Body) → is_some o ≡ false → o ≡ None
        by None h = refl
        by (Some b) h = absurd (true≢false h)

    bound : (class method : ℕ) (kind : InvokeKind) (g : Found) (y : look_up.Search) → number.finds_bound p class method kind ≡ y → search_at p y ≡ find.Finds g → Goes class method kind g
    bound class method kind g y e h =
        let x = place_of y g h in
        let f = found_number x.at g x.there in
        record {
          has_code = f.has_code;
          enters = λ c. record {
            own = f.method.name;
            is_number = f.is_number;
            may = subst (λ b. number.MayCall p targets class method kind f.method.name b) f.coded (number.Bound kind x.at f.method (e ∙ x.is) f.there);
            has_code = f.has_code;
          };
          leaves = λ c. number.Bare kind x.at f.method (e ∙ x.is) f.there (no_body f.method (f.coded ∙ c));
        }

    pub statically_is : (method : ℕ) (k : MethodKey) → method < length p.methods → method_at p method ≡ k → find.finds_statically (named p) k ≡ search_at p (search_of (finds_static p method))
    statically_is method k low e = ap (find.finds_statically (named p)) (sym e) ∙ static_by_number p s method low

    pub super_is : (class method : ℕ) (c : Class) (k : MethodKey) → slice_get p.classes class ≡ Some c → method < length p.methods → method_at p method ≡ k → find.finds_super (named p) (type_at p c.name) k ≡ search_at p (finds_super p class method)
    super_is class method c k is low e = ap (find.finds_super (named p) (type_at p c.name)) (sym e) ∙ super_by_number p s once c.name class (class_parts p s class c is).name (own_place p once class c is) c is method low

    -- a call by names that finds by its name alone
    pub bound_goes : (o : Outer) (class method : ℕ) (c : Class) (x : ℕ → Parts) (args : List ℕ) (kind : InvokeKind) (k : MethodKey) (g : Found) → slice_get p.classes class ≡ Some c → method < length p.methods
        → name.IsBound kind → method_at p method ≡ k → name.MayCall (values p) (named p) o (type_at p c.name) x args kind k g → Goes class method kind g
    bound_goes o class method c x args call.Static k g is low b e (name.Statically j f h) = bound class method call.Static g (search_of (finds_static p method)) refl (sym (statically_is method k low e) ∙ h)
    bound_goes o class method c x args call.Direct k g is low b e (name.Directly j f h) = bound class method call.Direct g (search_of (finds_static p method)) refl (sym (statically_is method k low e) ∙ h)
    bound_goes o class method c x args call.Super k g is low b e (name.Above j f h) = bound class method call.Super g (finds_super p class method) refl (sym (super_is class method c k is low e) ∙ h)
    bound_goes o class method c x args call.Virtual k g is low b e (name.Virtually j f t m d w h) = absurd b
    bound_goes o class method c x args call.Interface k g is low b e (name.ByInterface j f t m d w h) = absurd b

    -- a call that leaves by what it finds
    unfound : (class method : ℕ) (kind : InvokeKind) → number.IsBound kind → method < length p.methods → (y : look_up.Search) → number.finds_bound p class method kind ≡ y
        → name.FindsNoCode (values p) (search_at p y) → number.MayLeave p targets class method kind
    unfound class method kind b low look_up.Nothing e h = number.Unfound kind b e
    unfound class method kind b low look_up.Clash e h = absurd h
    unfound class method kind b low (look_up.Finds at) e h =
        let there = bound_there p s once class method kind at low e in
        let g = found_in (named_class p there.class) (named_method p there.method) in
        let f = found_number at g (found_there_is p at there) in
        number.Bare kind at f.method e f.there (no_body f.method (f.coded ∙ subst (λ o. name.FindsNoCode (values p) (names.finds o)) (found_there_is p at there) h))

    pub bound_leaves : (o : Outer) (class method : ℕ) (c : Class) (x : ℕ → Parts) (args : List ℕ) (kind : InvokeKind) (k : MethodKey) → slice_get p.classes class ≡ Some c → method < length p.methods
        → name.IsBound kind → method_at p method ≡ k → name.MayLeave (values p) (named p) o (type_at p c.name) x args kind k → number.MayLeave p targets class method kind
    bound_leaves o class method c x args call.Static k is low b e h = unfound class method call.Static tt low (search_of (finds_static p method)) refl (subst (name.FindsNoCode (values p)) (statically_is method k low e) h)
    bound_leaves o class method c x args call.Direct k is low b e h = unfound class method call.Direct tt low (search_of (finds_static p method)) refl (subst (name.FindsNoCode (values p)) (statically_is method k low e) h)
    bound_leaves o class method c x args call.Super k is low b e h = unfound class method call.Super tt low (finds_super p class method) refl (subst (name.FindsNoCode (values p)) (super_is class method c k is low e) h)
    bound_leaves o class method c x args call.Virtual k is low b e h = absurd b
    bound_leaves o class method c x args call.Interface k is low b e h = absurd b
