-- What the notes of an answer are, one by one.
use Rattle.std.proofs.Common.{◌≡◌, ◌∙◌, ℕ, zero, suc, ◌+◌, ◌⊎◌, inl, inr, Bool, true, false, true≢false, List, [], ◌∷◌, ◌++◌, refl, sym, ap, subst, arith, Some, None, Option}
use Rattle.std.specs.Prelude.{◌&&◌, ◌||◌, not, is_some, nat_eq, cond, option_and_then, slice_get, Contains}
use Rattle.std.specs.List.{flat_map}
use Rattle.std.proofs.lemmas.List.Elements.{Contains-append_left, Contains-append_right, Contains-append_cases}
use Rattle.program_model.specs.declared.pools.MethodName.{MethodName}
use Rattle.program_model.specs.declared.program.Class.{Class}
use Rattle.program_model.specs.declared.program.Method.{Method}
use Rattle.program_model.specs.declared.program.MethodAt.{MethodAt}
use Rattle.program_model.specs.declared.program.Program.{Program}
use Rattle.program_model.specs.Lookups.{class_place, method_at, method_or}
use Rattle.program_model.specs.MemberRules.{is_static, is_direct}
use Rattle.class_defs.specs.Members.{is_common, is_interface, has_code}
use Rattle.class_defs.specs.Finding.{Search, Nothing, Clash, Finds, finds_at}
use Rattle.class_defs.specs.Starts.{initialiser_place}
use Rattle.call_graph.specs.Follows.{class_of}
use Rattle.call_targets.specs.declared.kept.Kept.{Kept}
use Rattle.call_targets.specs.declared.named.Call.{Call}
use Rattle.call_targets.specs.declared.named.Named.{Named}
use Rattle.call_targets.specs.Adding.{Note, Links, Leaves, Enters, Needs}
use Rattle.call_targets.specs.Called.{calls_on}
use Rattle.call_targets.specs.Beginning.{is_entered, static_notes, is_empty, may_be_made_by, class_notes, all_class_notes}
use Rattle.call_targets.specs.Leaving.{admits_any, name_notes, all_name_notes}
use Rattle.call_targets.specs.Noting.{link_notes, search_notes, call_notes_of, call_notes, enter_notes, answer_notes, found_notes, is_called_back, virtual_notes_of, virtual_notes, method_notes, methods_of, kind_notes}
use Rattle.call_targets.specs.Targeted.{is_on, call_at, names_interface, IsBare}
use Rattle.call_targets.proofs.Contained.{none_in, only_in, first_in, later_in, first_or, flat_has, flat_from}

-- ---- tests

pub or_cases : (a b : Bool) → (a || b) ≡ true → (a ≡ true) ⊎ (b ≡ true)
or_cases true b h = inl refl
or_cases false b h = inr h

pub or_left : (a b : Bool) → a ≡ true → (a || b) ≡ true
or_left true b h = refl
or_left false b h = absurd (true≢false (sym h))

pub or_right : (a b : Bool) → b ≡ true → (a || b) ≡ true
or_right true b h = refl
or_right false b h = h

pub not_false : (b : Bool) → not b ≡ true → b ≡ false
not_false true h = absurd (true≢false (sym h))
not_false false h = refl

pub false_not : (b : Bool) → b ≡ false → not b ≡ true
false_not true h = absurd (true≢false h)
false_not false h = refl

none_some : {X : Type 0} (x : X) → None ≡ Some x → ⊥
none_some x e = cc

-- a note that a test lets through
one_of : (b : Bool) (y x : Note) → Contains (cond b (y ∷ []) []) x → (b ≡ true) × (x ≡ y)
one_of true y x c = (refl, sym (only_in y x c))
one_of false y x c = absurd (none_in x c)

one_in : (b : Bool) (y x : Note) → b ≡ true → x ≡ y → Contains (cond b (y ∷ []) []) x
one_in true y x h e = subst (Contains (y ∷ [])) (sym e) (first_in y [])
one_in false y x h e = absurd (true≢false (sym h))

some_of : (b : Bool) (ys : List Note) (x : Note) → Contains (cond b ys []) x → (b ≡ true) × Contains ys x
some_of true ys x c = (refl, c)
some_of false ys x c = absurd (none_in x c)

some_in : (b : Bool) (ys : List Note) (x : Note) → b ≡ true → Contains ys x → Contains (cond b ys []) x
some_in true ys x h c = c
some_in false ys x h c = absurd (true≢false (sym h))

unless_of : (b : Bool) (ys : List Note) (x : Note) → Contains (cond b [] ys) x → (b ≡ false) × Contains ys x
unless_of true ys x c = absurd (none_in x c)
unless_of false ys x c = (refl, c)

unless_in : (b : Bool) (ys : List Note) (x : Note) → b ≡ false → Contains ys x → Contains (cond b [] ys) x
unless_in true ys x h c = absurd (true≢false h)
unless_in false ys x h c = c

-- ---- calls that leave by their name

pub record NameNote (p : Program) (method : ℕ) (q : MethodName) (x : Note) : Type 0 where
  pub interface : Bool
  pub is : x ≡ Leaves (call_at method interface)
  pub why : (interface ≡ true) ⊎ ((class_place p q.class ≡ None) ⊎ (names_interface p q.class ≡ true))

-- why the receiver of a virtual call needn't stand under a type
admits_of : (p : Program) (kind : ℕ) → admits_any p (class_place p kind) ≡ true → (class_place p kind ≡ None) ⊎ (names_interface p kind ≡ true)
admits_of p kind h = by (class_place p kind) refl h
  where
    by : (o : Option ℕ) → class_place p kind ≡ o → admits_any p o ≡ true → (class_place p kind ≡ None) ⊎ (names_interface p kind ≡ true)
    by None e a = inl e
    by (Some c) e a = inr (ap (λ o. is_interface (option_and_then (slice_get p.classes) o)) e ∙ a)

admits_in : (p : Program) (kind : ℕ) → (class_place p kind ≡ None) ⊎ (names_interface p kind ≡ true) → admits_any p (class_place p kind) ≡ true
admits_in p kind (inl e) = ap (admits_any p) e
admits_in p kind (inr h) = by (class_place p kind) refl h
  where
    by : (o : Option ℕ) → class_place p kind ≡ o → is_interface (option_and_then (slice_get p.classes) o) ≡ true → admits_any p (class_place p kind) ≡ true
    by None e a = absurd (true≢false (sym a))
    by (Some c) e a = ap (admits_any p) e ∙ a

-- the notes behind the first
abbrev virtual_note : Program → ℕ → MethodName → List Note
virtual_note p method q = cond (admits_any p (class_place p q.class)) (Leaves (call_at method false) ∷ []) []

name_of : (p : Program) (method : ℕ) (q : MethodName) (x : Note) → Contains (name_notes p method q) x → NameNote p method q x
name_of p method q x c = elim (first_or (Leaves (call_at method true)) (virtual_note p method q) x c) [
  | inl e ↦ record { interface = true; is = sym e; why = inl refl }
  | inr d ↦ (let r = one_of (admits_any p (class_place p q.class)) (Leaves (call_at method false)) x d in record { interface = false; is = r.1; why = inr (admits_of p q.class r.0) })
]

name_in : (p : Program) (method : ℕ) (q : MethodName) (x : Note) (i : Bool) → x ≡ Leaves (call_at method i) → (i ≡ true) ⊎ ((class_place p q.class ≡ None) ⊎ (names_interface p q.class ≡ true)) → Contains (name_notes p method q) x
name_in p method q x true e why = subst (Contains (name_notes p method q)) (sym e) (first_in (Leaves (call_at method true)) (virtual_note p method q))
name_in p method q x false e (inl h) = absurd (true≢false (sym h))
name_in p method q x false e (inr h) = later_in (Leaves (call_at method true)) (virtual_note p method q) x (one_in (admits_any p (class_place p q.class)) (Leaves (call_at method false)) x (admits_in p q.class h) e)

pub record AtName (p : Program) (start : ℕ) (qs : List MethodName) (x : Note) : Type 0 where
  pub place : ℕ
  pub number : ℕ
  pub name : MethodName
  pub there : slice_get qs place ≡ Some name
  pub is_number : number ≡ start + place
  pub note : NameNote p number name x

pub names_of : (p : Program) (start : ℕ) (qs : List MethodName) (x : Note) → Contains (all_name_notes p start qs) x → AtName p start qs x
names_of p start [] x c = absurd (none_in x c)
names_of p start (q ∷ qs) x c = elim (Contains-append_cases (name_notes p start q) (all_name_notes p (suc start) qs) x c) [
  | inl d ↦ record { place = 0; number = start; name = q; there = refl; is_number = omega arith; note = name_of p start q x d }
  | inr d ↦ let r = names_of p (suc start) qs x d in record { place = suc r.place; number = r.number; name = r.name; there = r.there; is_number = (let e = r.is_number in omega (arith, e)); note = r.note }
]

pub names_in : (p : Program) (start : ℕ) (qs : List MethodName) (place number : ℕ) (q : MethodName) (x : Note) → slice_get qs place ≡ Some q → number ≡ start + place → NameNote p number q x → Contains (all_name_notes p start qs) x
names_in p start [] place number q x e n note = cc
names_in p start (y ∷ qs) zero number q x e n note = Contains-append_left (name_notes p start y) (all_name_notes p (suc start) qs) x
    (let s : y ≡ q = cc in let m : number ≡ start = omega (arith, n) in subst (λ z. Contains (name_notes p start z) x) (sym s) (subst (λ z. Contains (name_notes p z q) x) m (name_in p number q x note.interface note.is note.why)))
names_in p start (y ∷ qs) (suc place) number q x e n note = Contains-append_right (name_notes p start y) (all_name_notes p (suc start) qs) x (names_in p (suc start) qs place number q x e (omega (arith, n)) note)

-- ---- static methods that are entered

pub record AtStatic (k : Kept) (initialiser : Option MethodAt) (start : ℕ) (ms : List Method) (x : Note) : Type 0 where
  pub place : ℕ
  pub own : ℕ
  pub method : Method
  pub there : slice_get ms place ≡ Some method
  pub is_own : own ≡ start + place
  pub entered : is_entered k initialiser own method ≡ true
  pub is : x ≡ Enters method.name

pub statics_of : (k : Kept) (i : Option MethodAt) (start : ℕ) (ms : List Method) (x : Note) → Contains (static_notes k i start ms) x → AtStatic k i start ms x
statics_of k i start [] x c = absurd (none_in x c)
statics_of k i start (m ∷ ms) x c = elim (Contains-append_cases (cond (is_entered k i start m) (Enters m.name ∷ []) []) (static_notes k i (suc start) ms) x c) [
  | inl d ↦ let r = one_of (is_entered k i start m) (Enters m.name) x d in record { place = 0; own = start; method = m; there = refl; is_own = omega arith; entered = r.0; is = r.1 }
  | inr d ↦ let r = statics_of k i (suc start) ms x d in record { place = suc r.place; own = r.own; method = r.method; there = r.there; is_own = (let e = r.is_own in omega (arith, e)); entered = r.entered; is = r.is }
]

pub statics_in : (k : Kept) (i : Option MethodAt) (start : ℕ) (ms : List Method) (place own : ℕ) (m : Method) (x : Note) → slice_get ms place ≡ Some m → own ≡ start + place → is_entered k i own m ≡ true → x ≡ Enters m.name → Contains (static_notes k i start ms) x
statics_in k i start [] place own m x e n h is = cc
statics_in k i start (y ∷ ms) zero own m x e n h is = Contains-append_left (cond (is_entered k i start y) (Enters y.name ∷ []) []) (static_notes k i (suc start) ms) x
    (let s : y ≡ m = cc in let o : own ≡ start = omega (arith, n) in subst (λ z. Contains (cond (is_entered k i start z) (Enters z.name ∷ []) []) x) (sym s) (one_in (is_entered k i start m) (Enters m.name) x (subst (λ z. is_entered k i z m ≡ true) o h) is))
statics_in k i start (y ∷ ms) (suc place) own m x e n h is = Contains-append_right (cond (is_entered k i start y) (Enters y.name ∷ []) []) (static_notes k i (suc start) ms) x (statics_in k i (suc start) ms place own m x e (omega (arith, n)) h is)

nonempty : (xs : List Note) → not (is_empty xs) ≡ true → (y : Note) × Contains xs y
nonempty [] h = absurd (true≢false (sym h))
nonempty (x ∷ xs) h = (x, first_in x xs)

has_one : (xs : List Note) (x : Note) → Contains xs x → not (is_empty xs) ≡ true
has_one [] x c = absurd (none_in x c)
has_one (y ∷ ys) x c = refl

abbrev pub initialiser_in : Program → ℕ → Option MethodAt
initialiser_in p place = method_or place (initialiser_place p place) None

-- a class is needed as it may be made, or as a static method of it is entered
pub record NeedsClass (p : Program) (k : Kept) (place : ℕ) (c : Class) (x : Note) : Type 0 where
  pub is : x ≡ Needs place
  pub why : ((y : Note) × AtStatic k (initialiser_in p place) 0 c.methods y) ⊎ (may_be_made_by p k c ≡ true)

abbrev pub ClassNote : Program → Kept → ℕ → Class → Note → Type 0
ClassNote p k place c x = AtStatic k (initialiser_in p place) 0 c.methods x ⊎ NeedsClass p k place c x

class_notes_of : (p : Program) (k : Kept) (place : ℕ) (c : Class) (x : Note) → Contains (class_notes p k place c) x → ClassNote p k place c x
class_notes_of p k place c x h = let statics = static_notes k (initialiser_in p place) 0 c.methods in
    elim (Contains-append_cases statics (cond (not (is_empty statics) || may_be_made_by p k c) (Needs place ∷ []) []) x h) [
      | inl d ↦ inl (statics_of k (initialiser_in p place) 0 c.methods x d)
      | inr d ↦ let r = one_of (not (is_empty statics) || may_be_made_by p k c) (Needs place) x d in inr (record {
        is = r.1;
        why = elim (or_cases (not (is_empty statics)) (may_be_made_by p k c) r.0) [
          | inl e ↦ (let n = nonempty statics e in inl (n.0, statics_of k (initialiser_in p place) 0 c.methods n.0 n.1))
          | inr e ↦ inr e
        ];
      })
    ]

class_notes_in : (p : Program) (k : Kept) (place : ℕ) (c : Class) (x : Note) → ClassNote p k place c x → Contains (class_notes p k place c) x
class_notes_in p k place c x (inl s) = let statics = static_notes k (initialiser_in p place) 0 c.methods in
    Contains-append_left statics (cond (not (is_empty statics) || may_be_made_by p k c) (Needs place ∷ []) []) x (statics_in k (initialiser_in p place) 0 c.methods s.place s.own s.method x s.there s.is_own s.entered s.is)
class_notes_in p k place c x (inr n) = let statics = static_notes k (initialiser_in p place) 0 c.methods in
    Contains-append_right statics (cond (not (is_empty statics) || may_be_made_by p k c) (Needs place ∷ []) []) x (one_in (not (is_empty statics) || may_be_made_by p k c) (Needs place) x (elim n.why [
      | inl s ↦ or_left (not (is_empty statics)) (may_be_made_by p k c) (has_one statics s.0 (statics_in k (initialiser_in p place) 0 c.methods s.1.place s.1.own s.1.method s.0 s.1.there s.1.is_own s.1.entered s.1.is))
      | inr h ↦ or_right (not (is_empty statics)) (may_be_made_by p k c) h
    ]) n.is)

pub record AtClass (p : Program) (k : Kept) (start : ℕ) (cs : List Class) (x : Note) : Type 0 where
  pub place : ℕ
  pub number : ℕ
  pub class : Class
  pub there : slice_get cs place ≡ Some class
  pub is_number : number ≡ start + place
  pub note : ClassNote p k number class x

pub classes_of : (p : Program) (k : Kept) (start : ℕ) (cs : List Class) (x : Note) → Contains (all_class_notes p k start cs) x → AtClass p k start cs x
classes_of p k start [] x c = absurd (none_in x c)
classes_of p k start (y ∷ cs) x c = elim (Contains-append_cases (class_notes p k start y) (all_class_notes p k (suc start) cs) x c) [
  | inl d ↦ record { place = 0; number = start; class = y; there = refl; is_number = omega arith; note = class_notes_of p k start y x d }
  | inr d ↦ let r = classes_of p k (suc start) cs x d in record { place = suc r.place; number = r.number; class = r.class; there = r.there; is_number = (let e = r.is_number in omega (arith, e)); note = r.note }
]

pub classes_in : (p : Program) (k : Kept) (start : ℕ) (cs : List Class) (place number : ℕ) (c : Class) (x : Note) → slice_get cs place ≡ Some c → number ≡ start + place → ClassNote p k number c x → Contains (all_class_notes p k start cs) x
classes_in p k start [] place number c x e n note = cc
classes_in p k start (y ∷ cs) zero number c x e n note = Contains-append_left (class_notes p k start y) (all_class_notes p k (suc start) cs) x
    (let s : y ≡ c = cc in let m : number ≡ start = omega (arith, n) in subst (λ z. Contains (class_notes p k start z) x) (sym s) (subst (λ z. Contains (class_notes p k z c) x) m (class_notes_in p k number c x note)))
classes_in p k start (y ∷ cs) (suc place) number c x e n note = Contains-append_right (class_notes p k start y) (all_class_notes p k (suc start) cs) x (classes_in p k (suc start) cs place number c x e (omega (arith, n)) note)

-- ---- a call on an object

pub record LinkNote (p : Program) (class : ℕ) (call : Call) (q : MethodName) (x : Note) : Type 0 where
  pub at : MethodAt
  pub found : Method
  pub finds : finds_at p class q.name q.proto ≡ Finds at
  pub is_found : method_at p at ≡ Some found
  pub coded : is_some found.body ≡ true
  pub is : x ≡ Links (record { call = call.number; method = found.name })

pub record BareNote (p : Program) (class : ℕ) (call : Call) (q : MethodName) (x : Note) : Type 0 where
  pub bare : IsBare p (finds_at p class q.name q.proto)
  pub is : x ≡ Leaves call.number

pub record CallNote (p : Program) (class : ℕ) (call : Call) (x : Note) : Type 0 where
  pub name : MethodName
  pub is_name : slice_get p.methods call.method ≡ Some name
  pub note : LinkNote p class call name x ⊎ BareNote p class call name x

search_of : (p : Program) (class : ℕ) (call : Call) (q : MethodName) (x : Note) (s : Search) → finds_at p class q.name q.proto ≡ s → Contains (search_notes p call.number s) x → LinkNote p class call q x ⊎ BareNote p class call q x
search_of p class call q x Nothing e c = inr (record { bare = subst (IsBare p) (sym e) tt; is = sym (only_in (Leaves call.number) x c) })
search_of p class call q x Clash e c = absurd (none_in x c)
search_of p class call q x (Finds at) e c = by (method_at p at) refl c
  where
    by : (o : Option Method) → method_at p at ≡ o → Contains (link_notes call.number o) x → LinkNote p class call q x ⊎ BareNote p class call q x
    by None f d = inr (record { bare = subst (IsBare p) (sym e) (ap has_code f); is = sym (only_in (Leaves call.number) x d) })
    by (Some m) f d = with_body (is_some m.body) refl d
      where
        with_body : (b : Bool) → is_some m.body ≡ b → Contains (cond b (Links (record { call = call.number; method = m.name }) ∷ []) (Leaves call.number ∷ [])) x → LinkNote p class call q x ⊎ BareNote p class call q x
        with_body true g h = inl (record { at = at; found = m; finds = e; is_found = f; coded = g; is = sym (only_in (Links (record { call = call.number; method = m.name })) x h) })
        with_body false g h = inr (record { bare = subst (IsBare p) (sym e) (ap has_code f ∙ g); is = sym (only_in (Leaves call.number) x h) })

pub call_of : (p : Program) (class : ℕ) (call : Call) (x : Note) → Contains (call_notes p class call) x → CallNote p class call x
call_of p class call x c = by (slice_get p.methods call.method) refl c
  where
    by : (o : Option MethodName) → slice_get p.methods call.method ≡ o → Contains (call_notes_of p class call.number o) x → CallNote p class call x
    by None e d = absurd (none_in x d)
    by (Some q) e d = record { name = q; is_name = e; note = search_of p class call q x (finds_at p class q.name q.proto) refl d }

bare_in : (p : Program) (call : ℕ) (s : Search) → IsBare p s → Contains (search_notes p call s) (Leaves call)
bare_in p call Nothing h = first_in (Leaves call) []
bare_in p call Clash h = absurd h
bare_in p call (Finds at) h = by (method_at p at) h
  where
    by : (o : Option Method) → has_code o ≡ false → Contains (link_notes call o) (Leaves call)
    by None e = first_in (Leaves call) []
    by (Some m) e = subst (λ b. Contains (cond b (Links (record { call = call; method = m.name }) ∷ []) (Leaves call ∷ [])) (Leaves call)) (sym e) (first_in (Leaves call) [])

pub call_in : (p : Program) (class : ℕ) (call : Call) (x : Note) → CallNote p class call x → Contains (call_notes p class call) x
call_in p class call x n = subst (λ o. Contains (call_notes_of p class call.number o) x) (sym n.is_name) (by n.note)
  where
    by : LinkNote p class call n.name x ⊎ BareNote p class call n.name x → Contains (search_notes p call.number (finds_at p class n.name.name n.name.proto)) x
    by (inl l) = subst (λ s. Contains (search_notes p call.number s) x) (sym l.finds) (subst (λ o. Contains (link_notes call.number o) x) (sym l.is_found)
        (subst (λ b. Contains (cond b (Links (record { call = call.number; method = l.found.name }) ∷ []) (Leaves call.number ∷ [])) x) (sym l.coded)
        (subst (Contains (Links (record { call = call.number; method = l.found.name }) ∷ [])) (sym l.is) (first_in (Links (record { call = call.number; method = l.found.name })) []))))
    by (inr b) = subst (Contains (search_notes p call.number (finds_at p class n.name.name n.name.proto))) (sym b.is) (bare_in p call.number (finds_at p class n.name.name n.name.proto) b.bare)

-- ---- a method of a class above

pub record OwnNote (k : Kept) (m : Method) (x : Note) : Type 0 where
  pub kept : is_on k.methods.items m.name ≡ true
  pub coded : is_some m.body ≡ true
  pub is : x ≡ Enters m.name

pub record FoundNote (p : Program) (k : Kept) (class : ℕ) (outer : Bool) (number : ℕ) (x : Note) : Type 0 where
  pub name : MethodName
  pub at : MethodAt
  pub found : Method
  pub is_name : slice_get p.methods number ≡ Some name
  pub asked : (is_on k.methods.items number || is_called_back p k outer number name) ≡ true
  pub finds : finds_at p class name.name name.proto ≡ Finds at
  pub is_found : method_at p at ≡ Some found
  pub counts : (is_on k.methods.items number || nat_eq found.name number) ≡ true
  pub coded : is_some found.body ≡ true
  pub is : x ≡ Enters found.name

pub record MethodNote (p : Program) (k : Kept) (class : ℕ) (outer : Bool) (m : Method) (x : Note) : Type 0 where
  pub held : is_static m.flags ≡ false
  pub note : OwnNote k m x ⊎ ((is_direct p m ≡ false) × FoundNote p k class outer m.name x)

found_of : (p : Program) (k : Kept) (class : ℕ) (outer : Bool) (number : ℕ) (x : Note) → Contains (virtual_notes p k class outer number) x → FoundNote p k class outer number x
found_of p k class outer number x c = by_name (slice_get p.methods number) refl c
  where
    by_name : (o : Option MethodName) → slice_get p.methods number ≡ o → Contains (virtual_notes_of p k class outer number o) x → FoundNote p k class outer number x
    by_name None e d = absurd (none_in x d)
    by_name (Some q) e d = let keeps = is_on k.methods.items number in let r = some_of (keeps || is_called_back p k outer number q) (found_notes p keeps number (finds_at p class q.name q.proto)) x d in by_search (finds_at p class q.name q.proto) refl r.1
      where
        asked : (is_on k.methods.items number || is_called_back p k outer number q) ≡ true
        asked = (some_of (is_on k.methods.items number || is_called_back p k outer number q) (found_notes p (is_on k.methods.items number) number (finds_at p class q.name q.proto)) x d).0

        by_search : (s : Search) → finds_at p class q.name q.proto ≡ s → Contains (found_notes p (is_on k.methods.items number) number s) x → FoundNote p k class outer number x
        by_search Nothing f g = absurd (none_in x g)
        by_search Clash f g = absurd (none_in x g)
        by_search (Finds at) f g = by_method (method_at p at) refl g
          where
            by_method : (o : Option Method) → method_at p at ≡ o → Contains (answer_notes (is_on k.methods.items number) number o) x → FoundNote p k class outer number x
            by_method None i j = absurd (none_in x j)
            by_method (Some m) i j =
                let r = some_of (is_on k.methods.items number || nat_eq m.name number) (enter_notes m) x j in
                let s = one_of (is_some m.body) (Enters m.name) x r.1 in
                record { name = q; at = at; found = m; is_name = e; asked = asked; finds = f; is_found = i; counts = r.0; coded = s.0; is = s.1 }

found_in : (p : Program) (k : Kept) (class : ℕ) (outer : Bool) (number : ℕ) (x : Note) → FoundNote p k class outer number x → Contains (virtual_notes p k class outer number) x
found_in p k class outer number x n = let keeps = is_on k.methods.items number in
    subst (λ o. Contains (virtual_notes_of p k class outer number o) x) (sym n.is_name)
    (some_in (keeps || is_called_back p k outer number n.name) (found_notes p keeps number (finds_at p class n.name.name n.name.proto)) x n.asked
    (subst (λ s. Contains (found_notes p keeps number s) x) (sym n.finds) (subst (λ o. Contains (answer_notes keeps number o) x) (sym n.is_found)
    (some_in (keeps || nat_eq n.found.name number) (enter_notes n.found) x n.counts (one_in (is_some n.found.body) (Enters n.found.name) x n.coded n.is)))))

pub method_of : (p : Program) (k : Kept) (class : ℕ) (outer : Bool) (m : Method) (x : Note) → Contains (method_notes p k class outer m) x → MethodNote p k class outer m x
method_of p k class outer m x c = let keeps = is_on k.methods.items m.name in
    let own = cond keeps (enter_notes m) [] in
    let all = cond (is_direct p m) [] (virtual_notes p k class outer m.name) in
    let r = unless_of (is_static m.flags) (own ++ all) x c in
    record {
      held = r.0;
      note = elim (Contains-append_cases own all x r.1) [
        | inl d ↦ (let s = some_of keeps (enter_notes m) x d in let t = one_of (is_some m.body) (Enters m.name) x s.1 in inl (record { kept = s.0; coded = t.0; is = t.1 }))
        | inr d ↦ (let s = unless_of (is_direct p m) (virtual_notes p k class outer m.name) x d in inr (s.0, found_of p k class outer m.name x s.1))
      ];
    }

pub method_in : (p : Program) (k : Kept) (class : ℕ) (outer : Bool) (m : Method) (x : Note) → MethodNote p k class outer m x → Contains (method_notes p k class outer m) x
method_in p k class outer m x n = let keeps = is_on k.methods.items m.name in
    let own = cond keeps (enter_notes m) [] in
    let all = cond (is_direct p m) [] (virtual_notes p k class outer m.name) in
    unless_in (is_static m.flags) (own ++ all) x n.held (elim n.note [
      | inl o ↦ Contains-append_left own all x (some_in keeps (enter_notes m) x o.kept (one_in (is_some m.body) (Enters m.name) x o.coded o.is))
      | inr f ↦ Contains-append_right own all x (unless_in (is_direct p m) (virtual_notes p k class outer m.name) x f.0 (found_in p k class outer m.name x f.1))
    ])

-- ---- a type above

pub record OnCall (p : Program) (n : Named) (class kind : ℕ) (x : Note) : Type 0 where
  pub call : Call
  pub listed : Contains (calls_on n kind) call
  pub note : CallNote p class call x

pub record OnMethod (p : Program) (k : Kept) (class : ℕ) (outer : Bool) (kind : ℕ) (x : Note) : Type 0 where
  pub method : Method
  pub there : Contains (methods_of (class_of p kind)) method
  pub note : MethodNote p k class outer method x

pub kind_of : (p : Program) (n : Named) (k : Kept) (class : ℕ) (outer : Bool) (kind : ℕ) (x : Note) → Contains (kind_notes p n k class outer kind) x → OnCall p n class kind x ⊎ OnMethod p k class outer kind x
kind_of p n k class outer kind x c = elim (Contains-append_cases (flat_map (call_notes p class) (calls_on n kind)) (flat_map (method_notes p k class outer) (methods_of (class_of p kind))) x c) [
  | inl d ↦ (let r = flat_from (call_notes p class) (calls_on n kind) x d in inl (record { call = r.one; listed = r.is_in; note = call_of p class r.one x r.has }))
  | inr d ↦ (let r = flat_from (method_notes p k class outer) (methods_of (class_of p kind)) x d in inr (record { method = r.one; there = r.is_in; note = method_of p k class outer r.one x r.has }))
]

pub call_kind : (p : Program) (n : Named) (k : Kept) (class : ℕ) (outer : Bool) (kind : ℕ) (x : Note) → OnCall p n class kind x → Contains (kind_notes p n k class outer kind) x
call_kind p n k class outer kind x o = Contains-append_left (flat_map (call_notes p class) (calls_on n kind)) (flat_map (method_notes p k class outer) (methods_of (class_of p kind))) x (flat_has (call_notes p class) (calls_on n kind) o.call x o.listed (call_in p class o.call x o.note))

pub method_kind : (p : Program) (n : Named) (k : Kept) (class : ℕ) (outer : Bool) (kind : ℕ) (x : Note) → OnMethod p k class outer kind x → Contains (kind_notes p n k class outer kind) x
method_kind p n k class outer kind x o = Contains-append_right (flat_map (call_notes p class) (calls_on n kind)) (flat_map (method_notes p k class outer) (methods_of (class_of p kind))) x (flat_has (method_notes p k class outer) (methods_of (class_of p kind)) o.method x o.there (method_in p k class outer o.method x o.note))

-- ---- where a type of the framework stands above, no less is noted

more_found : (p : Program) (k : Kept) (class number : ℕ) (x : Note) → FoundNote p k class false number x → FoundNote p k class true number x
more_found p k class number x n = record { name = n.name; at = n.at; found = n.found; is_name = n.is_name; asked = by (is_on k.methods.items number) (not (is_on k.shut.items number)) (is_common p n.name.name n.name.proto) n.asked; finds = n.finds; is_found = n.is_found; counts = n.counts; coded = n.coded; is = n.is }
  where
    by : (a b c : Bool) → (a || (b && (false || c))) ≡ true → (a || (b && (true || c))) ≡ true
    by true b c h = refl
    by false true c h = refl
    by false false c h = absurd (true≢false (sym h))

pub more_notes : (p : Program) (n : Named) (k : Kept) (class kind : ℕ) (outer : Bool) (x : Note) → Contains (kind_notes p n k class false kind) x → Contains (kind_notes p n k class outer kind) x
more_notes p n k class kind false x c = c
more_notes p n k class kind true x c = elim (kind_of p n k class false kind x c) [
  | inl o ↦ call_kind p n k class true kind x o
  | inr o ↦ method_kind p n k class true kind x (record {
    method = o.method;
    there = o.there;
    note = record { held = o.note.held; note = elim o.note.note [ inl w ↦ inl w | inr f ↦ inr (f.0, more_found p k class o.method.name x f.1) ] };
  })
]
