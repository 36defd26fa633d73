-- What is noted of a program is what its calls may find, and what the framework may enter and need.
use Rattle.std.proofs.Common.{◌≡◌, ◌∙◌, ℕ, zero, suc, ◌*◌, ◌<◌, ◌⊎◌, inl, inr, Bool, true, false, true≢false, List, [], ◌∷◌, length, refl, sym, ap, subst, arith, Some, None, Option}
use Rattle.std.specs.Prelude.{◌&&◌, ◌||◌, ◌==◌, not, is_some, nat_eq, nat_lt, slice_get, slice_index_or, option_and_then, Contains}
use Rattle.std.specs.List.{list_any}
use Rattle.program_model.specs.declared.pass.Outside.{Outside}
use Rattle.program_model.specs.declared.pools.MethodName.{MethodName}
use Rattle.program_model.specs.declared.program.Class.{Class}
use Rattle.program_model.specs.declared.program.Method.{Method}
use Rattle.program_model.specs.declared.program.MethodAt.{MethodAt}
use Rattle.program_model.specs.declared.program.Program.{Program}
use Rattle.program_model.specs.Lookups.{class_place, method_at, method_or}
use Rattle.program_model.specs.MemberRules.{is_static, is_private, is_direct, name_of_method}
use Rattle.program_model.specs.TableRules.{method_id_fits}
use Rattle.program_model.specs.Texts.{first_unit, has_proto, has_string}
use Rattle.program_model.specs.ProgramRules.{is_well_formed}
use Rattle.class_defs.specs.ClassGraph.{IsTwice}
use Rattle.class_defs.specs.Members.{is_common}
use Rattle.class_defs.specs.Starts.{initialiser_place}
use Rattle.class_defs.proofs.Positions.{both, number_test, number_of, place_entry, place_first}
use Rattle.class_defs.proofs.WellFormed.{sound, class_parts, and_left, and_right, all_at, below}
use Rattle.call_graph.specs.declared.live_set.LiveSet.{LiveSet}
use Rattle.call_graph.specs.Follows.{class_of, can_be_made}
use Rattle.call_targets.specs.declared.made.Tables.{Tables}
use Rattle.call_targets.specs.declared.named.Call.{Call}
use Rattle.call_targets.specs.declared.table.Link.{Link}
use Rattle.call_targets.specs.declared.table.Targets.{Targets}
use Rattle.call_targets.specs.Adding.{Note, Links, Leaves, Enters, Needs, IsNoted, IsMet, AddsBy, Adds, IsBlank}
use Rattle.call_targets.specs.Beginning.{is_place, is_entered, keeps_constructor_by, may_be_made_by, all_class_notes}
use Rattle.call_targets.specs.Called.{ListedOf}
use Rattle.call_targets.specs.Following.{AreTables, OfClass, OfPlaces}
use Rattle.call_targets.specs.Leaving.{all_name_notes}
use Rattle.call_targets.specs.Noting.{is_called_back, methods_of}
use Rattle.call_targets.specs.Targeted.{is_on, call_at, AreJust, keeps_class, keeps_method, is_shut, is_constructor_name, may_be_made, IsCalledOn, IsMade, IsUnder, HasOuter, IsAsked, IsLink, LeavesByName, LeavesBare, MayLeave, IsCoded, IsEnteredStatic, StandsOver, IsEnteredKept, IsEnteredFor, IsCalledBack, IsEntered, IsBegun, IsTargeted}
use Rattle.call_targets.proofs.Contained.{get_in, got_short, none_in, first_or}
use Rattle.call_targets.proofs.Noted.{or_cases, or_left, or_right, not_false, false_not, names_of, names_in, AtStatic, initialiser_in, NeedsClass, classes_of, classes_in, CallNote, OwnNote, FoundNote, MethodNote, OnCall, kind_of, call_kind, method_kind}

some_same : {X : Type 0} (x y : X) → Some x ≡ Some y → x ≡ y
some_same x y e = cc

none_some : {X : Type 0} (x : X) → None ≡ Some x → ⊥
none_some x e = cc

marked_so : (l : List Bool) (n : ℕ) → n < length l → slice_index_or l n true ≡ true → slice_index_or l n false ≡ true
marked_so [] n lt h = absurd (omega (arith, lt))
marked_so (b ∷ bs) zero lt h = h
marked_so (b ∷ bs) (suc n) lt h = marked_so bs n (omega (arith, lt)) h

-- the entry of a list at a place
get_place : {X : Type 0} (xs : List X) (x : X) → Contains xs x → (i : ℕ) × (slice_get xs i ≡ Some x)
get_place [] x c = absurd (none_in x c)
get_place (y ∷ xs) x c = elim (first_or y xs x c) [ inl s ↦ (0, ap (λ z. Some z) s) | inr d ↦ (let r = get_place xs x d in (suc r.0, r.1)) ]

-- a virtual method isn't static
or_false : (a b : Bool) → (a || b) ≡ false → a ≡ false
or_false true b h = h
or_false false b h = refl

not_static : (p : Program) (m : Method) → is_direct p m ≡ false → is_static m.flags ≡ false
unfolding is_direct
not_static p m h = or_false (is_static m.flags) (is_private m.flags) (or_false (is_static m.flags || is_private m.flags) (first_unit (name_of_method p (slice_get p.methods m.name)) == 60) h)

link_is : (l : Link) (c m : ℕ) → l.call ≡ c → l.method ≡ m → l ≡ record { call = c; method = m }
link_is l c m a b = let f : ℕ → ℕ → Link = λ x y. record { call = x; method = y } in ap (λ z. f z l.method) a ∙ ap (λ z. f c z) b

-- ---- all that is noted

abbrev pub All : Program → Tables → List Bool → Note → Type 0
All p t made x = Contains (all_name_notes p 0 p.methods) x ⊎ (Contains (all_class_notes p t.kept 0 p.classes) x ⊎ OfPlaces p t made (length p.classes) x)

pub record Noted (p : Program) (t : Tables) (made : List Bool) (r : Targets) : Type 0 where
  pub has : (x : Note) → All p t made x → IsMet r x
  pub only : (x : Note) → IsNoted r x → All p t made x
  pub leaves : length r.leaves.items ≡ 2 * length p.methods
  pub entered : length r.entered.items ≡ length p.methods
  pub begun : length r.begun.items ≡ length p.classes

pub noted_all : (p : Program) (t : Tables) (made : List Bool) (a b c d : Targets) → IsBlank (length p.methods) (length p.classes) a → Adds (all_name_notes p 0 p.methods) a b → Adds (all_class_notes p t.kept 0 p.classes) b c → AddsBy (OfPlaces p t made (length p.classes)) c d → Noted p t made d
noted_all p t made a b c d blank f g h = record {
  has = λ x k. elim k [ inl n ↦ h.keeps x (g.by.keeps x (f.by.has x n)) | inr k ↦ elim k [ inl n ↦ h.keeps x (g.by.has x n) | inr n ↦ h.has x n ] ];
  only = λ x k. elim (h.only x k) [
    | inr n ↦ inr (inr n)
    | inl k ↦ elim (g.by.only x k) [ inr n ↦ inr (inl n) | inl k ↦ elim (f.by.only x k) [ inr n ↦ inl n | inl k ↦ absurd (blank.nothing x k) ] ]
  ];
  leaves = h.sizes.leaves ∙ g.by.sizes.leaves ∙ f.by.sizes.leaves ∙ blank.leaves;
  entered = h.sizes.entered ∙ g.by.sizes.entered ∙ f.by.sizes.entered ∙ blank.entered;
  begun = h.sizes.begun ∙ g.by.sizes.begun ∙ f.by.sizes.begun ∙ blank.begun;
}

module _ (p : Program) (o : Outside) (live : LiveSet) (t : Tables) (fits : is_well_formed p ≡ true) (once : (class : ℕ) → IsTwice p class → ⊥) (are : AreTables p o live t) where
  -- ---- what a program defines

  record Defined (kind c : ℕ) : Type 0 where
    pub class : Class
    pub is : slice_get p.classes c ≡ Some class
    pub named : class.name ≡ kind

  defined : (kind c : ℕ) → class_place p kind ≡ Some c → Defined kind c
  defined kind c e = let f = place_entry (λ k. nat_eq k.name kind) p.classes c e in record { class = f.entry; is = f.is; named = number_of f.entry.name kind f.passes }

  own_place : (c : ℕ) (k : Class) → slice_get p.classes c ≡ Some k → class_place p k.name ≡ Some c
  own_place c k e =
      let r = place_first (λ d. nat_eq d.name k.name) p.classes c k e (number_test k.name k.name refl) in
      let d = place_entry (λ d. nat_eq d.name k.name) p.classes r.place r.is in
      elim r.first [
        | inl l ↦ absurd (once c (record { earlier = r.place; before = l; one = d.entry; other = k; is_one = d.is; is_other = e; same = number_of d.entry.name k.name d.passes }))
        | inr same ↦ r.is ∙ ap (λ n. Some n) same
      ]

  class_is : (kind c : ℕ) (k : Class) → class_place p kind ≡ Some c → slice_get p.classes c ≡ Some k → class_of p kind ≡ Some k
  class_is kind c k e f = ap (option_and_then (slice_get p.classes)) e ∙ f

  type_short : (c : ℕ) (k : Class) → slice_get p.classes c ≡ Some k → k.name < length p.types
  type_short c k e = (class_parts p (sound p fits) c k e).name

  kind_short : (kind c : ℕ) → class_place p kind ≡ Some c → kind < length p.types
  kind_short kind c e = let d = defined kind c e in let s = type_short c d.class d.is in let n = d.named in omega (arith, s, n)

  name_short : (method : ℕ) (q : MethodName) → slice_get p.methods method ≡ Some q → q.class < length p.types
  name_short method q e = below q.class (length p.types) (and_left (nat_lt q.class (length p.types)) (has_proto p q.proto && has_string p q.name) (all_at (method_id_fits p) p.methods method q (sound p fits).methods_fit e))

  -- a method of a class of the program
  record Stands (at : MethodAt) (m : Method) : Type 0 where
    pub class : Class
    pub name : MethodName
    pub is_class : slice_get p.classes at.class ≡ Some class
    pub there : slice_get class.methods at.place ≡ Some m
    pub is_name : slice_get p.methods m.name ≡ Some name

  stands_at : (c i : ℕ) (k : Class) (m : Method) → slice_get p.classes c ≡ Some k → slice_get k.methods i ≡ Some m → Stands (record { class = c; place = i }) m
  stands_at c i k m e f = let n = (class_parts p (sound p fits) c k e).methods i m f in record { class = k; name = n.entry; is_class = e; there = f; is_name = n.is }

  stands_of : (at : MethodAt) (m : Method) → method_at p at ≡ Some m → Stands at m
  stands_of at m e = by (slice_get p.classes at.class) refl e
    where
      by : (x : Option Class) → slice_get p.classes at.class ≡ x → option_and_then (λ c. slice_get c.methods at.place) x ≡ Some m → Stands at m
      by None f g = absurd (none_some m g)
      by (Some k) f g = let n = (class_parts p (sound p fits) at.class k f).methods at.place m g in record { class = k; name = n.entry; is_class = f; there = g; is_name = n.is }

  method_is : (c i : ℕ) (k : Class) (m : Method) → slice_get p.classes c ≡ Some k → slice_get k.methods i ≡ Some m → method_at p (record { class = c; place = i }) ≡ Some m
  method_is c i k m e f = ap (option_and_then (λ x. slice_get x.methods i)) e ∙ f

  -- ---- links and calls that leave

  -- a made class, by its place
  made_at : (x : Note) → OfPlaces p t live.made.items (length p.classes) x → (kind : ℕ) × ((class : ℕ) × (IsMade p live kind class × OfClass p t class kind x))
  made_at x r = (r.class.name, (r.place, (record { made = r.is.is_made; is_class = own_place r.place r.class r.is_class }, r.is.is)))

  of_place : (kind class : ℕ) (x : Note) → IsMade p live kind class → OfClass p t class kind x → OfPlaces p t live.made.items (length p.classes) x
  of_place kind class x m r = let d = defined kind class m.is_class in record {
    place = class;
    class = d.class;
    before = got_short p.classes class d.class d.is;
    is_class = d.is;
    is = record { is_made = ap (is_on live.made.items) d.named ∙ m.made; is = subst (λ k. OfClass p t class k x) (sym d.named) r };
  }

  -- what a made class finds for a live call is noted
  asked_note : (interface : Bool) (method : ℕ) (q : MethodName) (class : ℕ) (x : Note) → IsAsked p live interface method q class → CallNote p class (record { number = call_at method interface; method = method }) x → OfPlaces p t live.made.items (length p.classes) x
  asked_note interface method q class x asked note = of_place asked.kind class x asked.made (record {
    top = q.class;
    outer = false;
    under = asked.under;
    short = name_short method q asked.is_name;
    right = λ h. absurd (true≢false (sym h));
    noted = call_kind p t.named t.kept class false q.class x (record {
      call = record { number = call_at method interface; method = method };
      listed = are.named.all interface method q asked.called asked.is_name (name_short method q asked.is_name);
      note = note;
    });
  })

  -- and what is noted of a call is found so
  record Asked (call : Call) (q : MethodName) (class : ℕ) : Type 0 where
    pub interface : Bool
    pub method : ℕ
    pub asked : IsAsked p live interface method q class
    pub is_call : call.number ≡ call_at method interface

  asked_of : (kind class top : ℕ) (call : Call) (q : MethodName) → IsMade p live kind class → IsUnder p kind top → ListedOf p (IsCalledOn p live) top call → slice_get p.methods call.method ≡ Some q → Asked call q class
  asked_of kind class top call q made under l e =
      let same : l.is.name ≡ q = some_same l.is.name q (sym l.is.is_name ∙ ap (slice_get p.methods) (sym l.is.is_method) ∙ e) in
      record {
        interface = l.interface;
        method = l.method;
        asked = record {
          called = l.makes;
          is_name = l.is.is_name ∙ ap (λ z. Some z) same;
          kind = kind;
          made = made;
          under = subst (IsUnder p kind) (sym l.is.is_kind ∙ ap (λ z. z.class) same) under;
        };
        is_call = l.is.is_number;
      }

  link_note : (link : Link) → IsLink p live link → All p t live.made.items (Links link)
  link_note link l = inr (inr (asked_note l.interface l.method l.name l.class (Links link) l.asked (record {
    name = l.name;
    is_name = l.asked.is_name;
    note = inl (record { at = l.at; found = l.found; finds = l.finds; is_found = l.is_found; coded = l.coded; is = ap (λ z. Links z) (link_is link (call_at l.method l.interface) l.found.name l.is_call l.is_method) });
  })))

  bare_note : (number : ℕ) → LeavesBare p live number → All p t live.made.items (Leaves number)
  bare_note number l = inr (inr (asked_note l.interface l.method l.name l.class (Leaves number) l.asked (record {
    name = l.name;
    is_name = l.asked.is_name;
    note = inr (record { bare = l.bare; is = ap (λ n. Leaves n) l.is_call });
  })))

  name_note : (number : ℕ) → LeavesByName p number → All p t live.made.items (Leaves number)
  name_note number l = inl (names_in p 0 p.methods l.method l.method l.name (Leaves number) l.is_name (omega arith) (record { interface = l.interface; is = ap (λ n. Leaves n) l.is_call; why = l.why }))

  -- ---- what the framework may enter

  kept_is : (number : ℕ) (q : MethodName) → slice_get p.methods number ≡ Some q → is_on t.kept.methods.items number ≡ keeps_method o number
  kept_is number q e = are.kept.methods number (got_short p.methods number q e)

  shut_is : (number : ℕ) (q : MethodName) → slice_get p.methods number ≡ Some q → is_on t.kept.shut.items number ≡ is_shut o number
  shut_is number q e = are.kept.shut number (got_short p.methods number q e)

  -- a method of the class of a type stands in it
  in_class : (c i top : ℕ) (k : Class) (m : Method) → class_place p top ≡ Some c → slice_get p.classes c ≡ Some k → slice_get k.methods i ≡ Some m → Contains (methods_of (class_of p top)) m
  in_class c i top k m e f g = subst (λ x. Contains (methods_of x) m) (sym (class_is top c k e f)) (get_in k.methods i m g)

  record Held (top : ℕ) (m : Method) : Type 0 where
    pub at : MethodAt
    pub placed : class_place p top ≡ Some at.class
    pub is_method : method_at p at ≡ Some m
    pub stands : Stands at m

  held_of : (top : ℕ) (m : Method) → Contains (methods_of (class_of p top)) m → Held top m
  held_of top m c = by_place (class_place p top) refl c
    where
      by_class : (i : ℕ) (x : Option Class) → class_place p top ≡ Some i → slice_get p.classes i ≡ x → Contains (methods_of x) m → Held top m
      by_class i None e f h = absurd (none_in m h)
      by_class i (Some k) e f h = let g = get_place k.methods m h in record { at = record { class = i; place = g.0 }; placed = e; is_method = method_is i g.0 k m f g.1; stands = stands_at i g.0 k m f g.1 }

      by_place : (x : Option ℕ) → class_place p top ≡ x → Contains (methods_of (option_and_then (slice_get p.classes) x)) m → Held top m
      by_place None e h = absurd (none_in m h)
      by_place (Some i) e h = by_class i (slice_get p.classes i) e refl h

  -- a note of a method of a class above a made class
  over_note : (kind class : ℕ) (at : MethodAt) (m : Method) (outer : Bool) (x : Note) → StandsOver p live kind class at.class → method_at p at ≡ Some m → (outer ≡ true → HasOuter p kind) → MethodNote p t.kept class outer m x → All p t live.made.items x
  over_note kind class at m outer x s e right note = let g = stands_of at m e in inr (inr (of_place kind class x s.made (record {
    top = s.top;
    outer = outer;
    under = s.under;
    short = kind_short s.top at.class s.is_above;
    right = right;
    noted = method_kind p t.named t.kept class outer s.top x (record { method = m; there = in_class at.class at.place s.top g.class m s.is_above g.is_class g.there; note = note });
  })))

  kept_note : (number : ℕ) → IsEnteredKept p o live number → All p t live.made.items (Enters number)
  kept_note number e = over_note e.kind e.class e.at e.method false (Enters number) e.stands e.is.is_method (λ h. absurd (true≢false (sym h))) (record {
    held = e.held;
    note = inl (record {
      kept = kept_is e.method.name e.name e.is.is_name ∙ ap (keeps_method o) (sym e.is.is_number) ∙ e.kept;
      coded = e.is.coded;
      is = ap (λ n. Enters n) e.is.is_number;
    });
  })

  for_note : (number : ℕ) → IsEnteredFor p o live number → All p t live.made.items (Enters number)
  for_note number e = let keeps : is_on t.kept.methods.items e.kept_method.name ≡ true = kept_is e.kept_method.name e.kept_name e.is_kept_name ∙ e.kept in
      over_note e.kind e.class e.kept_at e.kept_method false (Enters number) e.stands e.is_kept (λ h. absurd (true≢false (sym h))) (record {
        held = not_static p e.kept_method e.virtual;
        note = inr (
          e.virtual,
          record {
            name = e.kept_name;
            at = e.at;
            found = e.method;
            is_name = e.is_kept_name;
            asked = or_left (is_on t.kept.methods.items e.kept_method.name) (is_called_back p t.kept false e.kept_method.name e.kept_name) keeps;
            finds = e.finds;
            is_found = e.is.is_method;
            counts = or_left (is_on t.kept.methods.items e.kept_method.name) (nat_eq e.method.name e.kept_method.name) keeps;
            coded = e.is.coded;
            is = ap (λ n. Enters n) e.is.is_number;
          },
        );
      })

  back_note : (number : ℕ) → IsCalledBack p o live number → All p t live.made.items (Enters number)
  back_note number e = elim e.may [ inl h ↦ by true (λ z. h) refl | inr h ↦ by false (λ z. absurd (true≢false (sym z))) h ]
    where
      named : slice_get p.methods e.own.name ≡ Some e.name
      named = ap (slice_get p.methods) (e.same ∙ e.is.is_number) ∙ e.is.is_name

      opened : not (is_on t.kept.shut.items e.own.name) ≡ true
      opened = false_not (is_on t.kept.shut.items e.own.name) (shut_is e.own.name e.name named ∙ ap (is_shut o) e.same ∙ e.unshut)

      by : (outer : Bool) → (outer ≡ true → HasOuter p e.kind) → (outer || is_common p e.name.name e.name.proto) ≡ true → All p t live.made.items (Enters number)
      by outer right may = over_note e.kind e.class e.own_at e.own outer (Enters number) e.stands e.is_own right (record {
        held = not_static p e.own e.virtual;
        note = inr (
          e.virtual,
          record {
            name = e.name;
            at = e.at;
            found = e.method;
            is_name = named;
            asked = or_right (is_on t.kept.methods.items e.own.name) (is_called_back p t.kept outer e.own.name e.name) (both (not (is_on t.kept.shut.items e.own.name)) (outer || is_common p e.name.name e.name.proto) opened may);
            finds = e.finds;
            is_found = e.is.is_method;
            counts = or_right (is_on t.kept.methods.items e.own.name) (nat_eq e.method.name e.own.name) (number_test e.method.name e.own.name (sym (e.same ∙ e.is.is_number)));
            coded = e.is.coded;
            is = ap (λ n. Enters n) e.is.is_number;
          },
        );
      })

  -- ---- static methods and initialisers

  entered_parts : (initialiser : Option MethodAt) (own : ℕ) (m : Method) → is_entered t.kept initialiser own m ≡ true
      → (is_static m.flags ≡ true) × ((is_some m.body ≡ true) × ((is_on t.kept.methods.items m.name ≡ true) × (not (is_place initialiser own) ≡ true)))
  entered_parts i own m h =
      let r = and_right (is_static m.flags) (is_some m.body && (is_on t.kept.methods.items m.name && not (is_place i own))) h in
      let s = and_right (is_some m.body) (is_on t.kept.methods.items m.name && not (is_place i own)) r in (
        and_left (is_static m.flags) (is_some m.body && (is_on t.kept.methods.items m.name && not (is_place i own))) h,
        (
          and_left (is_some m.body) (is_on t.kept.methods.items m.name && not (is_place i own)) r,
          (and_left (is_on t.kept.methods.items m.name) (not (is_place i own)) s, and_right (is_on t.kept.methods.items m.name) (not (is_place i own)) s),
        ),
      )

  entered_all : (initialiser : Option MethodAt) (own : ℕ) (m : Method) → is_static m.flags ≡ true → is_some m.body ≡ true → is_on t.kept.methods.items m.name ≡ true → not (is_place initialiser own) ≡ true → is_entered t.kept initialiser own m ≡ true
  entered_all i own m a b c d = both (is_static m.flags) (is_some m.body && (is_on t.kept.methods.items m.name && not (is_place i own))) a
      (both (is_some m.body) (is_on t.kept.methods.items m.name && not (is_place i own)) b (both (is_on t.kept.methods.items m.name) (not (is_place i own)) c d))

  plain_place : (class own : ℕ) (x : Option ℕ) → (x ≡ Some own → ⊥) → not (is_place (method_or class x None) own) ≡ true
  plain_place class own None h = refl
  plain_place class own (Some i) h = by (nat_eq i own) refl
    where
      by : (b : Bool) → nat_eq i own ≡ b → not b ≡ true
      by true e = absurd (h (ap (λ n. Some n) (number_of i own e)))
      by false e = refl

  place_plain : (class own : ℕ) (x : Option ℕ) → not (is_place (method_or class x None) own) ≡ true → x ≡ Some own → ⊥
  place_plain class own x h e = true≢false (sym (number_test own own refl) ∙ not_false (nat_eq own own) (subst (λ y. not (is_place (method_or class y None) own) ≡ true) e h))

  -- a static method that is entered, among those of its class
  static_at : (at : MethodAt) (number : ℕ) → IsEnteredStatic p o at number → (c : Class) × ((slice_get p.classes at.class ≡ Some c) × AtStatic t.kept (initialiser_in p at.class) 0 c.methods (Enters number))
  static_at at number e = let g = stands_of at e.method e.is.is_method in (
    g.class,
    (
      g.is_class,
      record {
        place = at.place;
        own = at.place;
        method = e.method;
        there = g.there;
        is_own = omega arith;
        entered = entered_all (initialiser_in p at.class) at.place e.method e.static e.is.coded (kept_is e.method.name e.name e.is.is_name ∙ ap (keeps_method o) (sym e.is.is_number) ∙ e.kept) (plain_place at.class at.place (initialiser_place p at.class) e.plain);
        is = ap (λ n. Enters n) e.is.is_number;
      },
    ),
  )

  at_static : (class : ℕ) (c : Class) (x : Note) → slice_get p.classes class ≡ Some c → (s : AtStatic t.kept (initialiser_in p class) 0 c.methods x) → IsEnteredStatic p o (record { class = class; place = s.own }) s.method.name
  at_static class c x e s =
      let there : slice_get c.methods s.own ≡ Some s.method = ap (slice_get c.methods) (let n = s.is_own in omega (arith, n)) ∙ s.there in
      let g = stands_at class s.own c s.method e there in
      let r = entered_parts (initialiser_in p class) s.own s.method s.entered in
      record {
        method = s.method;
        name = g.name;
        is = record { is_method = method_is class s.own c s.method e there; is_name = g.is_name; coded = r.1.0; is_number = refl };
        static = r.0;
        plain = place_plain class s.own (initialiser_place p class) r.1.1.1;
        kept = sym (kept_is s.method.name g.name g.is_name) ∙ r.1.1.0;
      }

  static_note : (at : MethodAt) (number : ℕ) → IsEnteredStatic p o at number → All p t live.made.items (Enters number)
  static_note at number e = let s = static_at at number e in inr (inl (classes_in p t.kept 0 p.classes at.class at.class s.0 (Enters number) s.1.0 (omega arith) (inl s.1.1)))

  entered_note : (number : ℕ) → IsEntered p o live number → All p t live.made.items (Enters number)
  entered_note number (inl e) = static_note e.0 number e.1
  entered_note number (inr (inl e)) = kept_note number e
  entered_note number (inr (inr (inl e))) = for_note number e
  entered_note number (inr (inr (inr e))) = back_note number e

  -- ---- classes that may be made

  any_same : (f g : Method → Bool) (ms : List Method) → ((i : ℕ) (m : Method) → slice_get ms i ≡ Some m → f m ≡ g m) → list_any f ms ≡ list_any g ms
  any_same f g [] h = refl
  any_same f g (m ∷ ms) h = ap (λ b. b || list_any f ms) (h 0 m refl) ∙ ap (λ b. g m || b) (any_same f g ms (λ i k e. h (suc i) k e))

  may_same : (class : ℕ) (c : Class) → slice_get p.classes class ≡ Some c → may_be_made_by p t.kept c ≡ may_be_made p o c
  may_same class c e = ap (λ b. can_be_made c && b) (
      ap (λ b. b || keeps_constructor_by p t.kept c.methods) (are.kept.classes c.name (type_short class c e))
      ∙ ap (λ b. keeps_class o c.name || b) (any_same (λ m. is_on t.kept.methods.items m.name && is_constructor_name p (slice_get p.methods m.name)) (λ m. keeps_method o m.name && is_constructor_name p (slice_get p.methods m.name)) c.methods
      (λ i m f. ap (λ b. b && is_constructor_name p (slice_get p.methods m.name)) (let g = stands_at class i c m e f in kept_is m.name g.name g.is_name)))
      )

  class_note : (class : ℕ) (c : Class) → slice_get p.classes class ≡ Some c → NeedsClass p t.kept class c (Needs class) → All p t live.made.items (Needs class)
  class_note class c e n = inr (inl (classes_in p t.kept 0 p.classes class class c (Needs class) e (omega arith) (inr n)))

  begun_note : (class : ℕ) → IsBegun p o class → All p t live.made.items (Needs class)
  begun_note class (inl m) = class_note class m.is m.is_class (record { is = refl; why = inr (may_same class m.is m.is_class ∙ m.may) })
  begun_note class (inr m) = let s = static_at m.at m.number m.entered in subst (λ k. All p t live.made.items (Needs k)) m.is_class (class_note m.at.class s.0 s.1.0 (record { is = refl; why = inl (Enters m.number, s.1.1) }))

  -- ---- what is noted comes from one of these

  held_over : (kind class top : ℕ) (m : Method) → IsMade p live kind class → IsUnder p kind top → (h : Held top m) → StandsOver p live kind class h.at.class
  held_over kind class top m made under h = record { made = made; top = top; under = under; is_above = h.placed }

  link_of : (link : Link) → All p t live.made.items (Links link) → IsLink p live link
  link_of link (inl n) = let r = names_of p 0 p.methods (Links link) n in let e = r.note.is in absurd cc
  link_of link (inr (inl n)) = elim (classes_of p t.kept 0 p.classes (Links link) n).note [ inl s ↦ (let e = s.is in absurd cc) | inr s ↦ (let e = s.is in absurd cc) ]
  link_of link (inr (inr n)) = let r = made_at (Links link) n in let f = r.1.1.1 in elim (kind_of p t.named t.kept r.1.0 f.outer f.top (Links link) f.noted) [
    | inl c ↦ by r.0 r.1.0 f.top c r.1.1.0 f.under
    | inr c ↦ elim c.note.note [ inl w ↦ (let e = w.is in absurd cc) | inr w ↦ (let e = w.1.is in absurd cc) ]
  ]
    where
      by : (kind class top : ℕ) (c : OnCall p t.named class top (Links link)) → IsMade p live kind class → IsUnder p kind top → IsLink p live link
      by kind class top c made under = let a = asked_of kind class top c.call c.note.name made under (are.named.only top c.call c.listed) c.note.is_name in elim c.note.note [
        | inl l ↦ (
            let same : link ≡ record { call = c.call.number; method = l.found.name } = (let e = l.is in cc) in
            record { interface = a.interface; method = a.method; name = c.note.name; class = class; at = l.at; found = l.found; asked = a.asked; finds = l.finds; is_found = l.is_found; coded = l.coded; is_call = ap (λ z. z.call) same ∙ a.is_call; is_method = ap (λ z. z.method) same }
            )
        | inr b ↦ (let e = b.is in absurd cc)
      ]

  leaves_of : (number : ℕ) → All p t live.made.items (Leaves number) → MayLeave p live number
  leaves_of number (inl n) = let r = names_of p 0 p.methods (Leaves number) n in inl (record {
    interface = r.note.interface;
    method = r.number;
    name = r.name;
    is_name = ap (slice_get p.methods) (let e = r.is_number in omega (arith, e)) ∙ r.there;
    why = r.note.why;
    is_call = (let e = r.note.is in cc);
  })
  leaves_of number (inr (inl n)) = elim (classes_of p t.kept 0 p.classes (Leaves number) n).note [ inl s ↦ (let e = s.is in absurd cc) | inr s ↦ (let e = s.is in absurd cc) ]
  leaves_of number (inr (inr n)) = let r = made_at (Leaves number) n in let f = r.1.1.1 in elim (kind_of p t.named t.kept r.1.0 f.outer f.top (Leaves number) f.noted) [
    | inl c ↦ inr (by r.0 r.1.0 f.top c r.1.1.0 f.under)
    | inr c ↦ elim c.note.note [ inl w ↦ (let e = w.is in absurd cc) | inr w ↦ (let e = w.1.is in absurd cc) ]
  ]
    where
      by : (kind class top : ℕ) (c : OnCall p t.named class top (Leaves number)) → IsMade p live kind class → IsUnder p kind top → LeavesBare p live number
      by kind class top c made under = let a = asked_of kind class top c.call c.note.name made under (are.named.only top c.call c.listed) c.note.is_name in elim c.note.note [
        | inl l ↦ (let e = l.is in absurd cc)
        | inr b ↦ record { interface = a.interface; method = a.method; name = c.note.name; class = class; asked = a.asked; bare = b.bare; is_call = (let e = b.is in let s : number ≡ c.call.number = cc in s ∙ a.is_call) }
      ]

  -- a method that is found for a method of a class above
  found_entered : (kind class top number : ℕ) (outer : Bool) (m : Method) → IsMade p live kind class → IsUnder p kind top → (outer ≡ true → HasOuter p kind) → Held top m → is_direct p m ≡ false → FoundNote p t.kept class outer m.name (Enters number) → IsEntered p o live number
  found_entered kind class top number outer m made under right h virtual f = by (is_on t.kept.methods.items m.name) refl f.asked f.counts
    where
      is_number : number ≡ f.found.name
      is_number = let e = f.is in cc

      coded : IsCoded p f.at f.found (stands_of f.at f.found f.is_found).name number
      coded = record { is_method = f.is_found; is_name = (stands_of f.at f.found f.is_found).is_name; coded = f.coded; is_number = is_number }

      by : (b : Bool) → is_on t.kept.methods.items m.name ≡ b → (b || is_called_back p t.kept outer m.name f.name) ≡ true → (b || nat_eq f.found.name m.name) ≡ true → IsEntered p o live number
      by true e a c = inr (inr (inl (record {
        at = f.at;
        method = f.found;
        name = (stands_of f.at f.found f.is_found).name;
        kept_at = h.at;
        kept_method = m;
        kept_name = f.name;
        kind = kind;
        class = class;
        is = coded;
        is_kept = h.is_method;
        is_kept_name = f.is_name;
        stands = held_over kind class top m made under h;
        virtual = virtual;
        kept = sym (kept_is m.name f.name f.is_name) ∙ e;
        finds = f.finds;
      })))
      by false e a c =
          let same : f.found.name ≡ m.name = number_of f.found.name m.name c in
          let named : (stands_of f.at f.found f.is_found).name ≡ f.name = some_same (stands_of f.at f.found f.is_found).name f.name (sym (stands_of f.at f.found f.is_found).is_name ∙ ap (slice_get p.methods) same ∙ f.is_name) in
          let shut = not_false (is_on t.kept.shut.items m.name) (and_left (not (is_on t.kept.shut.items m.name)) (outer || is_common p f.name.name f.name.proto) a) in
          let may = and_right (not (is_on t.kept.shut.items m.name)) (outer || is_common p f.name.name f.name.proto) a in
          inr (inr (inr (record {
            at = f.at;
            method = f.found;
            name = f.name;
            own_at = h.at;
            own = m;
            kind = kind;
            class = class;
            is = subst (λ q. IsCoded p f.at f.found q number) named coded;
            is_own = h.is_method;
            same = sym (is_number ∙ same);
            stands = held_over kind class top m made under h;
            virtual = virtual;
            unshut = ap (is_shut o) (is_number ∙ same) ∙ sym (shut_is m.name f.name f.is_name) ∙ shut;
            finds = f.finds;
            may = elim (or_cases outer (is_common p f.name.name f.name.proto) may) [ inl g ↦ inl (right g) | inr g ↦ inr g ];
          })))

  own_entered : (kind class top number : ℕ) (m : Method) → IsMade p live kind class → IsUnder p kind top → Held top m → is_static m.flags ≡ false → OwnNote t.kept m (Enters number) → IsEnteredKept p o live number
  own_entered kind class top number m made under h held w = let is_number : number ≡ m.name = (let e = w.is in cc) in record {
    at = h.at;
    method = m;
    name = h.stands.name;
    kind = kind;
    class = class;
    is = record { is_method = h.is_method; is_name = h.stands.is_name; coded = w.coded; is_number = is_number };
    stands = held_over kind class top m made under h;
    held = held;
    kept = ap (keeps_method o) is_number ∙ sym (kept_is m.name h.stands.name h.stands.is_name) ∙ w.kept;
  }

  entered_of : (number : ℕ) → All p t live.made.items (Enters number) → IsEntered p o live number
  entered_of number (inl n) = let r = names_of p 0 p.methods (Enters number) n in let e = r.note.is in absurd cc
  entered_of number (inr (inl n)) = let r = classes_of p t.kept 0 p.classes (Enters number) n in elim r.note [
    | inl s ↦ inl (record { class = r.number; place = s.own }, subst (λ k. IsEnteredStatic p o (record { class = r.number; place = s.own }) k) (let e = s.is in let same : s.method.name ≡ number = cc in same) (at_static r.number r.class (Enters number) (ap (slice_get p.classes) (let e = r.is_number in omega (arith, e)) ∙ r.there) s))
    | inr s ↦ (let e = s.is in absurd cc)
  ]
  entered_of number (inr (inr n)) = let r = made_at (Enters number) n in let f = r.1.1.1 in elim (kind_of p t.named t.kept r.1.0 f.outer f.top (Enters number) f.noted) [
    | inl c ↦ elim c.note.note [ inl w ↦ (let e = w.is in absurd cc) | inr w ↦ (let e = w.is in absurd cc) ]
    | inr c ↦ (let h = held_of f.top c.method c.there in elim c.note.note [
      | inl w ↦ inr (inl (own_entered r.0 r.1.0 f.top number c.method r.1.1.0 f.under h c.note.held w))
      | inr w ↦ found_entered r.0 r.1.0 f.top number f.outer c.method r.1.1.0 f.under f.right h w.0 w.1
    ])
  ]

  begun_of : (class : ℕ) → All p t live.made.items (Needs class) → IsBegun p o class
  begun_of class (inl n) = let r = names_of p 0 p.methods (Needs class) n in let e = r.note.is in absurd cc
  begun_of class (inr (inl n)) = let r = classes_of p t.kept 0 p.classes (Needs class) n in let there : slice_get p.classes r.number ≡ Some r.class = ap (slice_get p.classes) (let e = r.is_number in omega (arith, e)) ∙ r.there in elim r.note [
    | inl s ↦ (let e = s.is in absurd cc)
    | inr s ↦ (
        let same : class ≡ r.number = (let e = s.is in cc) in
        elim s.why [
          | inl w ↦ inr (record { at = record { class = r.number; place = w.1.own }; number = w.1.method.name; entered = at_static r.number r.class w.0 there w.1; is_class = sym same })
          | inr w ↦ inl (record { is = r.class; is_class = ap (slice_get p.classes) same ∙ there; may = sym (may_same r.number r.class there) ∙ w })
        ]
        )
  ]
  begun_of class (inr (inr n)) = let r = made_at (Needs class) n in let f = r.1.1.1 in elim (kind_of p t.named t.kept r.1.0 f.outer f.top (Needs class) f.noted) [
    | inl c ↦ elim c.note.note [ inl w ↦ (let e = w.is in absurd cc) | inr w ↦ (let e = w.is in absurd cc) ]
    | inr c ↦ elim c.note.note [ inl w ↦ (let e = w.is in absurd cc) | inr w ↦ (let e = w.1.is in absurd cc) ]
  ]

  -- ---- numbers that are noted are those of a table

  call_short : (interface : Bool) (method n : ℕ) → method < n → call_at method interface < 2 * n
  call_short true method n lt = omega (arith, lt)
  call_short false method n lt = omega (arith, lt)

  leave_short : (number : ℕ) → MayLeave p live number → number < 2 * length p.methods
  leave_short number (inl l) = let s = call_short l.interface l.method (length p.methods) (got_short p.methods l.method l.name l.is_name) in let e = l.is_call in omega (arith, s, e)
  leave_short number (inr l) = let s = call_short l.interface l.method (length p.methods) (got_short p.methods l.method l.name l.asked.is_name) in let e = l.is_call in omega (arith, s, e)

  leave_note : (number : ℕ) → MayLeave p live number → All p t live.made.items (Leaves number)
  leave_note number (inl l) = name_note number l
  leave_note number (inr l) = bare_note number l

  coded_short : (at : MethodAt) (m : Method) (q : MethodName) (number : ℕ) → IsCoded p at m q number → number < length p.methods
  coded_short at m q number c = let s = got_short p.methods m.name q c.is_name in let e = c.is_number in omega (arith, s, e)

  enter_short : (number : ℕ) → IsEntered p o live number → number < length p.methods
  enter_short number (inl e) = coded_short e.0 e.1.method e.1.name number e.1.is
  enter_short number (inr (inl e)) = coded_short e.at e.method e.name number e.is
  enter_short number (inr (inr (inl e))) = coded_short e.at e.method e.name number e.is
  enter_short number (inr (inr (inr e))) = coded_short e.at e.method e.name number e.is

  begin_short : (class : ℕ) → IsBegun p o class → class < length p.classes
  begin_short class (inl m) = got_short p.classes class m.is m.is_class
  begin_short class (inr m) = let s = static_at m.at m.number m.entered in let l = got_short p.classes m.at.class s.0 s.1.0 in let e = m.is_class in omega (arith, l, e)

  -- ---- the answer

  pub targeted : (r : Targets) → Noted p t live.made.items r → IsTargeted p o live r
  targeted r n = record {
    links = λ link l. n.has (Links link) (link_note link l);
    only_links = λ link c. link_of link (n.only (Links link) c);
    leaves = record {
      long = n.leaves;
      all = λ k h. marked_so r.leaves.items k (let s = leave_short k h in let e = n.leaves in omega (arith, s, e)) (n.has (Leaves k) (leave_note k h));
      only = λ k h. leaves_of k (n.only (Leaves k) h);
    };
    entered = record {
      long = n.entered;
      all = λ k h. marked_so r.entered.items k (let s = enter_short k h in let e = n.entered in omega (arith, s, e)) (n.has (Enters k) (entered_note k h));
      only = λ k h. entered_of k (n.only (Enters k) h);
    };
    begun = record {
      long = n.begun;
      all = λ k h. marked_so r.begun.items k (let s = begin_short k h in let e = n.begun in omega (arith, s, e)) (n.has (Needs k) (begun_note k h));
      only = λ k h. begun_of k (n.only (Needs k) h);
    };
  }

-- the same links in another order, and each once
pub same_links : (p : Program) (o : Outside) (live : LiveSet) (a b : Targets) → IsTargeted p o live a → ((l : Link) → Contains a.links.items l → Contains b.links.items l) → ((l : Link) → Contains b.links.items l → Contains a.links.items l) → b.leaves ≡ a.leaves → b.entered ≡ a.entered → b.begun ≡ a.begun → IsTargeted p o live b
same_links p o live a b f there back leaves entered begun = record {
  links = λ link l. there link (f.links link l);
  only_links = λ link c. f.only_links link (back link c);
  leaves = subst (λ v. AreJust (2 * length p.methods) (MayLeave p live) v.items) (sym leaves) f.leaves;
  entered = subst (λ v. AreJust (length p.methods) (IsEntered p o live) v.items) (sym entered) f.entered;
  begun = subst (λ v. AreJust (length p.classes) (IsBegun p o) v.items) (sym begun) f.begun;
}
