-- From the setting of a method to the method.
use Rattle.std.proofs.Common.{◌≡◌, ℕ, ◌+◌, ◌<◌, ◌≤◌, Bool, List, [], ◌∷◌, ◌++◌, take, get_or, length, Option, Some, None, inl, inr, refl, sym, ap, ◌∙◌, subst, arith}
use Rattle.std.proofs.lemmas.Bool.{cases_lt}
use Rattle.std.proofs.lemmas.List.{take_more, take_all}
use Rattle.std.proofs.lemmas.List.Elements.{All-push}
use Rattle.std.proofs.lemmas.Option.{slice_get_read}
use Rattle.verify.specs.Flow.{greatest}
use Rattle.verify.specs.Typings.{Table}
use Rattle.verify.proofs.Arrives.{some_same}
use Rattle.std.specs.Prelude.{Result, Ok, Err, IfOk, IfErr, All, slice_get}
use Rattle.program_model.specs.declared.body.Body.{Body}
use Rattle.program_model.specs.declared.program.Class.{Class}
use Rattle.program_model.specs.declared.program.Method.{Method}
use Rattle.verify.specs.declared.fault.TypeFault.{TypeFault}
use Rattle.verify.specs.declared.fault.TypeFault.TheVariants as fault
use Rattle.verify.specs.declared.kinds.Kind.{Kind}
use Rattle.verify.specs.declared.setting.Setting.{Setting}
use Rattle.verify.specs.declared.typed.Typings.{Typings}
use Rattle.verify.specs.declared.typed.Verifier.{Verifier}
use Rattle.verify.specs.Entry.{begun}
use Rattle.verify.specs.Flow.{places_of}
use Rattle.program_model.specs.declared.program.MethodAt.{MethodAt}
use Rattle.program_model.specs.Lookups.{method_at}
use Rattle.verify.specs.Methods.{constructs, receiver_of, IsSettingOf, HasTyping, Refuses, RefusesCode, Types, HasTypings, TypesAt, TypesWith, RefusesAt, RefusesWith, RefusesIn, AllBelow, RefusesFirst, IsFor, TypesAll, RefusesOne}
use Rattle.hierarchy.specs.Shapes.{IsOf}
use Rattle.hierarchy.specs.declared.Hierarchy.{Hierarchy}
use Rattle.insn_set.specs.declared.form.Insn.{Insn}
use Rattle.verify.specs.declared.calls.Search.{Search}
use Rattle.verify.specs.Supers.{Finds, Serves}
use Rattle.hierarchy.specs.declared.walk.Walk.{Walk}
use Rattle.program_model.specs.declared.program.Program.{Program}
use Rattle.verify.specs.Names.{parameters_of}
use Rattle.verify.specs.Typings.{IsLeastTyping, IsIllTyped}
use Rattle.verify.specs.Typings.{Refuses as RefusesBody}

-- what the super calls of a body find, where it is looked at by other names
pub finds_from : (p q : Program) (h k : Hierarchy) (at : ℕ) (is slice : List Insn) (found fs : List Search) → q ≡ p → k ≡ h → slice ≡ is → fs ≡ found → (IsOf q k → Finds q at slice found) → IsOf p h → Finds p at is fs
finds_from p q h k at is slice found fs e f g j made of =
    subst (λ x. Finds p at is x) (sym j) (subst (λ x. Finds p at x found) g (subst (λ x. Finds x at slice found) e (made (subst (λ x. IsOf q x) (sym f) (subst (λ x. IsOf x h) (sym e) of)))))

pub serves_by : (h k : Hierarchy) (w : Option Walk) → k ≡ h → Serves h w → Serves k w
serves_by h k w e s = subst (λ x. Serves x w) (sym e) s

module _ (v : Verifier) (c : Class) (at : ℕ) (m : Method) (b : Body) (s : Setting) (is : IsSettingOf v c at m s) (begins : Bool) (receiver : Option Kind) (kinds : List ℕ)
    (e : begins ≡ constructs v.tables m) (f : receiver ≡ receiver_of c at m begins) (g : kinds ≡ parameters_of v.program.now m.name) (finds : IsOf v.program.now v.hierarchy.now → Finds v.program.now at b.insns s.found.now) where
  same : begun s b receiver kinds ≡ begun s b (receiver_of c at m (constructs v.tables m)) (parameters_of v.program.now m.name)
  same = ap (λ r. begun s b r kinds) (f ∙ ap (receiver_of c at m) e) ∙ ap (begun s b (receiver_of c at m (constructs v.tables m))) g

  pub typed_from : (r : Result Typings TypeFault) → IfOk r (λ x. IsLeastTyping s b (begun s b receiver kinds) (places_of x.states.items)) → IfOk r (λ x. HasTyping v c at m b (places_of x.states.items))
  typed_from (Ok x) h = record { setting = s; is = is; finds = finds; least = subst (λ a. IsLeastTyping s b a (places_of x.states.items)) same h }
  typed_from (Err y) h = tt

  fault_from : (y : TypeFault) → RefusesBody s b (begun s b receiver kinds) m.name y → RefusesCode v c at m b y
  fault_from fault.NoMemory h = tt
  fault_from (fault.IllTyped k n r) h = (h.0, record { setting = s; is = is; finds = finds; ill = subst (λ a. IsIllTyped s b a n r) same h.1 })

  pub refused_from : (r : Result Typings TypeFault) → IfErr r (λ y. RefusesBody s b (begun s b receiver kinds) m.name y) → IfErr r (RefusesCode v c at m b)
  refused_from (Ok x) h = tt
  refused_from (Err y) h = fault_from y h

-- ---- a method that has the code

module _ (v : Verifier) (c : Class) (at : ℕ) (m : Method) (b : Body) (has : m.body ≡ Some b) where
  own_fault : (y : TypeFault) → RefusesCode v c at m b y → Refuses v c at m y
  own_fault fault.NoMemory h = tt
  own_fault (fault.IllTyped k n r) h = (h.0, record { setting = h.1.setting; is = h.1.is; body = b; has = has; finds = h.1.finds; ill = h.1.ill })

  pub refused_own : (r : Result Typings TypeFault) → IfErr r (RefusesCode v c at m b) → IfErr r (Refuses v c at m)
  refused_own (Ok x) h = tt
  refused_own (Err y) h = own_fault y h

-- ---- the method at a place

module _ (v : Verifier) (at : MethodAt) (c : Class) (m : Method) (e : slice_get v.program.now.classes at.class ≡ Some c) (f : method_at v.program.now at ≡ Some m) where
  types_at : (x : Table) → Types v c at.class m x → TypesAt v at x
  types_at x h c' m' e' f' = subst (λ d. Types v d at.class m' x) (some_same c c' (sym e ∙ e')) (subst (λ d. Types v c at.class d x) (some_same m m' (sym f ∙ f')) h)

  pub typed_at : (r : Result Typings TypeFault) → IfOk r (λ x. Types v c at.class m (places_of x.states.items)) → IfOk r (λ x. TypesAt v at (places_of x.states.items))
  typed_at (Ok x) h = types_at (places_of x.states.items) h
  typed_at (Err y) h = tt

  pub refused_at : (r : Result Typings TypeFault) → IfErr r (Refuses v c at.class m) → IfErr r (RefusesAt v at)
  refused_at (Ok x) h = tt
  refused_at (Err y) h = record { class = c; method = m; is_class = e; is_method = f; refuses = h }

-- ---- the method at a place with another body

module _ (v : Verifier) (at : MethodAt) (b : Body) (c : Class) (m : Method) (e : slice_get v.program.now.classes at.class ≡ Some c) (f : method_at v.program.now at ≡ Some m) where
  types_with : (x : Table) → HasTyping v c at.class m b x → TypesWith v at b x
  types_with x h c' m' e' f' = subst (λ d. HasTyping v d at.class m' b x) (some_same c c' (sym e ∙ e')) (subst (λ d. HasTyping v c at.class d b x) (some_same m m' (sym f ∙ f')) h)

  pub typed_with : (r : Result Typings TypeFault) → IfOk r (λ x. HasTyping v c at.class m b (places_of x.states.items)) → IfOk r (λ x. TypesWith v at b (places_of x.states.items))
  typed_with (Ok x) h = types_with (places_of x.states.items) h
  typed_with (Err y) h = tt

  pub refused_with : (r : Result Typings TypeFault) → IfErr r (RefusesCode v c at.class m b) → IfErr r (RefusesWith v at b)
  refused_with (Ok x) h = tt
  refused_with (Err y) h = record { class = c; method = m; is_class = e; is_method = f; refuses = h }

-- ---- all methods

-- one more method of a class
pub method_on : (v : Verifier) (c : Class) (at : ℕ) (ms : List Method) (m : Method) (i : ℕ) (x : Table) → i < length ms → m ≡ get_or ms i m → Types v c at m x → All (HasTypings v c at) (take i ms) → All (HasTypings v c at) (take (i + 1) ms)
method_on v c at ms m i x lt e h all =
    let p : take (i + 1) ms ≡ take i ms ++ m ∷ [] = subst (λ d. take (i + 1) ms ≡ take i ms ++ d ∷ []) (sym e) (take_more ms i m lt) in
    subst (All (HasTypings v c at)) (sym p) (All-push (HasTypings v c at) (take i ms) m all (record { table = x; types = h }))

pub methods_end : (v : Verifier) (c : Class) (at : ℕ) (ms : List Method) (i : ℕ) → length ms ≤ i → All (HasTypings v c at) (take i ms) → All (HasTypings v c at) ms
methods_end v c at ms i le all = subst (All (HasTypings v c at)) (take_all i ms le) all

-- one more class
pub class_on : (v : Verifier) (cs : List Class) (c : Class) (i at : ℕ) → cs ≡ v.program.now.classes → i < length cs → c ≡ get_or cs i c → at ≡ i → All (HasTypings v c at) c.methods → AllBelow v i → AllBelow v (i + 1)
class_on v cs c i at same lt e q h all k d l is = elim (cases_lt k i) [
  | inl b ↦ all k d b is
  | inr b ↦
      let j : k ≡ i = omega (arith, l, b) in
      let here : slice_get v.program.now.classes i ≡ Some c = subst (λ l. slice_get l i ≡ Some c) same (slice_get_read cs (length cs) i c refl lt e) in
      let e' : c ≡ d = some_same c d (sym here ∙ subst (λ n. slice_get v.program.now.classes n ≡ Some d) j is) in
      subst (λ n. All (HasTypings v d n) d.methods) (q ∙ sym j) (subst (λ d. All (HasTypings v d at) d.methods) e' h)
]

-- the first that is refused
pub first_refused : (v : Verifier) (cs : List Class) (c : Class) (i at : ℕ) (y : TypeFault) → cs ≡ v.program.now.classes → i < length cs → c ≡ get_or cs i c → at ≡ i → AllBelow v i → RefusesIn v c at y → RefusesFirst v y
first_refused v cs c i at y same lt e q all r = record {
  at = i;
  class = c;
  is = subst (λ l. slice_get l i ≡ Some c) same (slice_get_read cs (length cs) i c refl lt e);
  before = all;
  refuses = subst (λ n. RefusesIn v c n y) q r;
}

pub nothing_at : (v : Verifier) (at : MethodAt) (x : Table) → slice_get v.program.now.classes at.class ≡ None → TypesAt v at x
nothing_at v at x e c m f g = let h : None ≡ Some c = sym e ∙ f in absurd (cc)

pub nothing_in : (v : Verifier) (at : MethodAt) (x : Table) → method_at v.program.now at ≡ None → TypesAt v at x
nothing_in v at x e c m f g = let h : None ≡ Some m = sym e ∙ g in absurd (cc)

pub nothing_with : (v : Verifier) (at : MethodAt) (b : Body) (x : Table) → slice_get v.program.now.classes at.class ≡ None → TypesWith v at b x
nothing_with v at b x e c m f g = let h : None ≡ Some c = sym e ∙ f in absurd (cc)

pub nothing_with_in : (v : Verifier) (at : MethodAt) (b : Body) (x : Table) → method_at v.program.now at ≡ None → TypesWith v at b x
nothing_with_in v at b x e c m f g = let h : None ≡ Some m = sym e ∙ g in absurd (cc)

pub all_for : (p : Program) (h : Hierarchy) (v : Verifier) → IsFor p h v → length p.classes ≤ greatest → (length v.program.now.classes ≤ greatest → AllBelow v (length v.program.now.classes)) → TypesAll p h
all_for p h v is few t = record { verifier = v; is = is; types = subst (λ q. length q.classes ≤ greatest → AllBelow v (length q.classes)) is.program t few }

pub one_for : (p : Program) (h : Hierarchy) (v : Verifier) (e : TypeFault) → IsFor p h v → length p.classes ≤ greatest → (length v.program.now.classes ≤ greatest → RefusesFirst v e) → RefusesOne p h e
one_for p h v e is few t = record { verifier = v; is = is; refuses = subst (λ q. length q.classes ≤ greatest → RefusesFirst v e) is.program t few }
