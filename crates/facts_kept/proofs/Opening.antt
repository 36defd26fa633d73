-- What the framework may enter by names it may enter by number: kept static methods, kept methods of classes above made ones, what
-- their objects find for these, and what the framework calls back.
use Rattle.std.proofs.Common.{◌≡◌, ℕ, ◌<◌, ◌⊎◌, inl, inr, Bool, true, false, true≢false, [], ◌∷◌, length, Option, Some, None, refl, sym, ap, ◌∙◌, subst}
use Rattle.std.specs.Prelude.{◌&&◌, ◌||◌, not, cond, codes, if◌then◌else◌, is_some, nat_eq, slice_get, position, option_and_then}
use Rattle.std.specs.List.{list_any}
use Rattle.lemmas.proofs.Bools.{not_true, or_cases, or_left, untrue}
use Rattle.lemmas.proofs.Options.{mapped_some, some_same}
use Rattle.program_model.specs.MemberRules.{is_direct}
use Rattle.program_model.specs.declared.pass.Outside.{Outside}
use Rattle.program_model.specs.declared.pools.MethodName.{MethodName}
use Rattle.program_model.specs.declared.program.Class.{Class}
use Rattle.program_model.specs.declared.program.Method.{Method}
use Rattle.program_model.specs.declared.program.MethodAt.{MethodAt}
use Rattle.program_model.specs.declared.program.Program.{Program}
use Rattle.class_defs.specs.Finding as look_up
use Rattle.class_defs.specs.Finding.{finds_at}
use Rattle.class_defs.specs.Members as member
use Rattle.class_defs.specs.Starts.{initialiser_of, initialiser_place, is_initialiser, names_initialiser, running, runs}
use Rattle.class_defs.proofs.Positions.{PlaceFits, entry_at, place_entry}
use Rattle.class_defs.proofs.WellFormed.{and_left, and_right, Sound, class_parts}
use Rattle.call_graph.specs.Above.{is_outer}
use Rattle.call_graph.specs.declared.live_set.LiveSet.{LiveSet}
use Rattle.call_targets.specs.Targeted as targeted
use Rattle.call_targets.specs.Targeted.{is_shut, keeps_method, HasOuter, IsCoded, IsTargeted, StandsOver}
use Rattle.call_targets.specs.declared.table.Targets.{Targets}
use Rattle.dalvik_defs.specs.Find as find
use Rattle.dalvik_defs.specs.Find.{Found, is_virtual_method, method_in}
use Rattle.dalvik_defs.specs.Flags as flags
use Rattle.dalvik_defs.specs.Names as spelled
use Rattle.dalvik_defs.specs.Names.{Text, initialiser_name, same_name, void}
use Rattle.dalvik_defs.specs.Naming.{named, named_class, named_method, signature_at, text_at, type_at}
use Rattle.dalvik_defs.specs.Outer.{outer_of}
use Rattle.dalvik_defs.specs.Under.{is_outward, is_own_under}
use Rattle.dalvik_defs.specs.declared.names.MethodKey.{MethodKey}
use Rattle.dalvik_defs.specs.declared.program.NamedMethod.{NamedMethod}
use Rattle.name_bridge.specs.Named.{search_at}
use Rattle.name_bridge.proofs.Above.{own_place}
use Rattle.name_bridge.proofs.Candidates.{coded_test, common_test, finds_at_by_number, named_test}
use Rattle.name_bridge.proofs.Flags.{static_flag}
use Rattle.name_bridge.proofs.Found.{virtual_test}
use Rattle.name_bridge.proofs.Tables.{method_is, method_name, method_proto}
use Rattle.removal_law.proofs.Outward.{any_where}
use Rattle.domains.specs.Values.{Parts, any_value}
use Rattle.facts.specs.declared.facts.Facts as table
use Rattle.closed_facts.specs.Tables as tables
use Rattle.closed_facts.specs.Tables.{registers_at}
use Rattle.pass_defs.specs.Facts.{Facts, IsEnteredOn, IsEnteredStatic, answers_kept, finds_itself, is_called_back, is_initialiser_key, keeps_virtual}
use Rattle.pass_defs.specs.Live.{IsMade, unconditional}
use Rattle.reach.specs.Marked.{IsMarked}
use Rattle.reach_bridge.proofs.Based.{S}
use Rattle.reach_bridge.proofs.Climbing.{object_is, outward}
use Rattle.reach_bridge.proofs.Held.{of_image, placed_at}
use Rattle.run_facts.specs.Closed as name
use Rattle.facts_kept.specs.Names.{is_coded, named_facts, values, values_of}
use Rattle.facts_kept.proofs.Asking.{marked_at, stands_under}
use Rattle.facts_kept.proofs.Beginning.{parameter_same}
use Rattle.facts_kept.proofs.Calling.{found_number, place_of}
use Rattle.facts_kept.proofs.Defining.{DefinedAt, OwnAt, defined_at, key_same, listed_name, listed_number, own_at, same_number}
use Rattle.facts_kept.proofs.Made.{MadeNumber, made_number}
use Rattle.facts_kept.proofs.Numbers.{IsNumber, method_sound}
use Rattle.facts_kept.proofs.Places.{at_number, looked_up, own_key}

-- a search that finds a method of a name itself
found_itself : (k : MethodKey) (x : find.Search) → finds_itself k x ≡ true → (f : Found) × ((x ≡ find.Finds f) × (f.key ≡ k))
found_itself k find.Search.Nothing e = absurd (true≢false (sym e))
found_itself k find.Search.Clash e = absurd (true≢false (sym e))
found_itself k (find.Search.Finds f) e = (f, (refl, method_sound f.key k e))

-- ---- initialisers

initialiser_test : (p : Program) (m : Method) → same_name (named_method p m).name (named_method p m).signature initialiser_name void ≡ is_initialiser p m
initialiser_test p m = by_entry (slice_get p.methods m.name)
  where
    by_entry : (o : Option MethodName) → same_name (elim o as (λ o. MethodKey) [ Some m ↦ record { class = type_at p m.class; name = text_at p m.name; signature = signature_at p m.proto } | None ↦ record { class = []; name = []; signature = record { parameters = []; result = [] } } ]).name
        (elim o as (λ o. MethodKey) [ Some m ↦ record { class = type_at p m.class; name = text_at p m.name; signature = signature_at p m.proto } | None ↦ record { class = []; name = []; signature = record { parameters = []; result = [] } } ]).signature initialiser_name void
        ≡ names_initialiser p o
    by_entry None = refl
    by_entry (Some q) = named_test p q.name q.proto (codes "<clinit>") [] 86 []

-- the place of an initialiser has a method of its name
pub starts_at : (p : Program) (k : Class) (i : ℕ) → initialiser_of p (Some k) ≡ Some i → PlaceFits (is_initialiser p) k.methods i
starts_at p k i e = by (position (is_initialiser p) k.methods) refl e
  where
    by_test : (j : ℕ) (b : Bool) → position (is_initialiser p) k.methods ≡ Some j → cond b (Some j) None ≡ Some i → PlaceFits (is_initialiser p) k.methods i
    by_test j true h e = let same : j ≡ i = cc in subst (PlaceFits (is_initialiser p) k.methods) same (place_entry (is_initialiser p) k.methods j h)
    by_test j false h e = absurd (cc)

    by : (x : Option ℕ) → position (is_initialiser p) k.methods ≡ x → running k.methods x ≡ Some i → PlaceFits (is_initialiser p) k.methods i
    by None h e = absurd (cc)
    by (Some j) h e = by_test j (runs (slice_get k.methods j)) h e

-- a method of that name is named so
pub initialiser_named : (p : Program) (m : Method) → is_initialiser p m ≡ true → same_name (named_method p m).name (named_method p m).signature initialiser_name void ≡ true
initialiser_named p m e = initialiser_test p m ∙ e

module _ (p : Program) (o : Outside) (live : LiveSet) (g : IsMarked p o live) (targets : Targets) (exact : IsTargeted p o live targets) (t : table.Facts) where
  abbrev s : Sound p
  s = S p o live g

  abbrev facts : Facts Parts
  facts = named_facts p t

  -- ---- an entry by number is one by names

  pub entered_number : (k : MethodKey) (m : ℕ) → IsNumber p s k m → tables.IsEntered t m → name.IsEntered (values p) facts k
  entered_number k m h e = ap is_some (at_number p s t k m 0 h) ∙ mapped_some values_of (registers_at t m 0) ∙ e

  open_number : (k : MethodKey) (m : ℕ) → is_coded p k ≡ true → IsNumber p s k m → tables.IsOpen t m → name.IsOpen (values p) facts k
  open_number k m coded h e = record {
    entered = entered_number k m h e.entered;
    parameters = λ i. subst (λ v. (values p).below any_value v) (sym (parameter_same p s t k m i coded h)) (e.parameters i);
  }

  -- ---- a method with code that the program defines

  module _ (k : MethodKey) (x : NamedMethod) (d : find.defined_method (named p) k ≡ Some x) (has_body : is_some x.body ≡ true) where
    pub own : DefinedAt p s k x
    own = defined_at p s k x d

    entry : (q : MethodName) × (slice_get p.methods own.method.name ≡ Some q)
    entry = entry_at p.methods own.method.name own.number.low

    key : record { class = type_at p entry.0.class; name = text_at p entry.0.name; signature = signature_at p entry.0.proto } ≡ k
    key = sym (method_is p s own.method.name entry.0 entry.1) ∙ own.number.named

    coded : is_some own.method.body ≡ true
    coded = sym (coded_test p own.method.body) ∙ ap (λ m. is_some m.body) own.is ∙ has_body

    pub has_code : is_coded p k ≡ true
    has_code = ap (λ o. is_some (option_and_then (λ m. m.body) o)) d ∙ has_body

    is : IsCoded p own.at own.method entry.0 own.method.name
    is = record { is_method = own.there; is_name = entry.1; coded = coded; is_number = refl }

    kept : (outer_of p o).methods k ≡ true → keeps_method o own.method.name ≡ true
    kept e = or_left (list_any (nat_eq own.method.name) o.methods) (list_any (nat_eq own.method.name) o.methods_if) (listed_number p s k own.method.name own.at.class own.class o.methods own.number own.is_class own.class_is e)

    -- ---- static methods

    plain : is_initialiser_key k ≡ false → initialiser_place p own.at.class ≡ Some own.at.place → ⊥
    plain other e =
        let r = starts_at p own.class own.at.place (sym (ap (initialiser_of p) own.is_class) ∙ e) in
        let same = some_same r.entry own.method (sym r.is ∙ own.is_method) in
        let named : same_name k.name k.signature initialiser_name void ≡ true =
        subst (λ z. same_name z.name z.signature initialiser_name void ≡ true) own.number.named (initialiser_named p own.method (subst (λ m. is_initialiser p m ≡ true) same r.passes)) in
        true≢false (sym named ∙ other)

    pub static_entered : flags.is_static x.flags ≡ true → is_initialiser_key k ≡ false → (outer_of p o).methods k ≡ true → targeted.IsEnteredStatic p o own.at own.method.name
    static_entered static other keeps = record {
      method = own.method;
      name = entry.0;
      is = is;
      static = static_flag own.method.flags ∙ ap (λ m. flags.is_static m.flags) own.is ∙ static;
      plain = plain other;
      kept = kept keeps;
    }

    -- ---- methods that are entered on an object of a made class

    virtual_is : is_virtual_method x ≡ true → is_direct p own.method ≡ false
    virtual_is v = not_true (is_direct p own.method) (sym (virtual_test p own.method) ∙ ap is_virtual_method own.is ∙ v)

    module _ (receiver : Text) (made : IsMade (named p) (outer_of p o) unconditional receiver) where
      n : MadeNumber p live receiver
      n = made_number p o live g receiver made

      over : (i : ℕ) (c : Class) → slice_get p.classes i ≡ Some c → is_own_under (named p) receiver (type_at p c.name) ≡ true → StandsOver p live n.number n.place i
      over i c e u = record {
        made = record { made = n.marked; is_class = n.is_place };
        top = c.name;
        under = stands_under p o live g n.number c.name n.short (class_parts p s i c e).name (subst (λ z. is_own_under (named p) z (type_at p c.name) ≡ true) (sym n.is) u);
        is_above = own_place p g.once i c e;
      }

      -- what an object of the class finds for a name
      finds_is : (q : MethodName) → q.name < length p.strings → q.proto < length p.protos → text_at p q.name ≡ k.name → signature_at p q.proto ≡ k.signature
          → find.finds_at (named p) receiver k ≡ search_at p (finds_at p n.place q.name q.proto)
      finds_is q hn hq a b =
          ap (λ z. find.finds_at (named p) z k) (sym n.is) ∙ ap (find.finds_at (named p) (type_at p n.number)) (sym (key_same k refl a b))
          ∙ finds_at_by_number p s q.name q.proto hn hq g.once n.number n.place k.class n.short n.is_place

      -- it finds the method itself
      record Itself (q : MethodName) : Type 0 where
        pub at : MethodAt
        pub method : Method
        pub finds : finds_at p n.place q.name q.proto ≡ look_up.Finds at
        pub is : IsCoded p at method entry.0 own.method.name

      itself : (q : MethodName) → q.name < length p.strings → q.proto < length p.protos → text_at p q.name ≡ k.name → signature_at p q.proto ≡ k.signature
          → finds_itself k (find.finds_at (named p) receiver k) ≡ true → Itself q
      itself q hn hq a b e =
          let r = found_itself k (find.finds_at (named p) receiver k) e in
          let x = place_of p s g.once (finds_at p n.place q.name q.proto) r.0 (sym (finds_is q hn hq a b) ∙ r.1.0) in
          let f = found_number p s g.once x.at r.0 x.there in
          let same = same_number p s k f.method.name own.method.name (subst (λ z. IsNumber p s z f.method.name) r.1.1 f.is_number) own.number in
          record {
            at = x.at;
            method = f.method;
            finds = x.is;
            is = record {
              is_method = f.there;
              is_name = ap (slice_get p.methods) same ∙ entry.1;
              coded = f.coded ∙ sym f.has_code ∙ ap (is_coded p) r.1.1 ∙ has_code;
              is_number = sym same;
            };
          }

      -- a kept method
      kept_entered : is_own_under (named p) receiver k.class ≡ true → flags.is_static x.flags ≡ false → (outer_of p o).methods k ≡ true → targeted.IsEntered p o live own.method.name
      kept_entered under held keeps = inr (inl (record {
        at = own.at;
        method = own.method;
        name = entry.0;
        kind = n.number;
        class = n.place;
        is = is;
        stands = over own.at.class own.class own.is_class (subst (λ z. is_own_under (named p) receiver z ≡ true) (sym own.class_is) under);
        held = static_flag own.method.flags ∙ ap (λ m. flags.is_static m.flags) own.is ∙ held;
        kept = kept keeps;
      }))

      -- what is found for a kept method of a class above
      module _ (i : ℕ) (c : Class) (e : slice_get p.classes i ≡ Some c) (under : is_own_under (named p) receiver (type_at p c.name) ≡ true) (finds : finds_itself k (find.finds_at (named p) receiver k) ≡ true) where
        found_for : (m : NamedMethod) → OwnAt p s c k.name k.signature m → (outer_of p o).methods (record k { class = type_at p c.name }) ≡ true → is_virtual_method m ≡ true → targeted.IsEntered p o live own.method.name
        found_for m w keeps virtual =
            let numbered = own_key p s i w.place c w.method e w.is_method in
            let here : IsNumber p s (record k { class = type_at p c.name }) w.method.name = record { low = numbered.low; named = numbered.named ∙ key_same (record k { class = type_at p c.name }) refl w.name w.signature } in
            let q = entry_at p.methods w.method.name numbered.low in
            let it = itself q.0 (method_name p s w.method.name q.0 q.1) (method_proto p s w.method.name q.0 q.1)
            (ap (λ k. k.name) (sym (method_is p s w.method.name q.0 q.1)) ∙ w.name) (ap (λ k. k.signature) (sym (method_is p s w.method.name q.0 q.1)) ∙ w.signature) finds in
            inr (inr (inl (record {
              at = it.at;
              method = it.method;
              name = entry.0;
              kept_at = record { class = i; place = w.place };
              kept_method = w.method;
              kept_name = q.0;
              kind = n.number;
              class = n.place;
              is = it.is;
              is_kept = looked_up p s (record { class = i; place = w.place }) c w.method e w.is_method;
              is_kept_name = q.1;
              stands = over i c e under;
              virtual = not_true (is_direct p w.method) (sym (virtual_test p w.method) ∙ ap is_virtual_method w.is ∙ virtual);
              kept = or_left (list_any (nat_eq w.method.name) o.methods) (list_any (nat_eq w.method.name) o.methods_if)
                  (listed_number p s (record k { class = type_at p c.name }) w.method.name i c o.methods here e refl keeps);
              finds = it.finds;
            })))

        above_entered : keeps_virtual (outer_of p o) k (named_class p c) ≡ true → targeted.IsEntered p o live own.method.name
        above_entered keeps = by (method_in (named_class p c) k.name k.signature) refl (and_right ((outer_of p o).methods (record k { class = type_at p c.name })) _ keeps)
          where
            by : (x : Option NamedMethod) → method_in (named_class p c) k.name k.signature ≡ x → (elim x as (λ x. Bool) [ Some m ↦ is_virtual_method m | None ↦ false ]) ≡ true → targeted.IsEntered p o live own.method.name
            by None h v = absurd (true≢false (sym v))
            by (Some m) h v = found_for m (own_at p s c k.name k.signature m h) (and_left ((outer_of p o).methods (record k { class = type_at p c.name })) _ keeps) v

      answers_entered : answers_kept (named p) (outer_of p o) receiver k x ≡ true → targeted.IsEntered p o live own.method.name
      answers_entered e =
          let two = and_left (is_virtual_method x && finds_itself k (find.finds_at (named p) receiver k)) (list_any (λ c. is_own_under (named p) receiver c.name && keeps_virtual (outer_of p o) k c) (named p).classes) e in
          let r = any_where (λ c. is_own_under (named p) receiver c.name && keeps_virtual (outer_of p o) k c) (named p).classes
          (and_right (is_virtual_method x && finds_itself k (find.finds_at (named p) receiver k)) (list_any (λ c. is_own_under (named p) receiver c.name && keeps_virtual (outer_of p o) k c) (named p).classes) e) in
          let c = of_image (named_class p) r.0 p.classes r.1.0 in
          let i = placed_at p.classes c.0 c.1.0 in
          let holds = subst (λ z. (is_own_under (named p) receiver z.name && keeps_virtual (outer_of p o) k z) ≡ true) (sym c.1.1) r.1.1 in
          above_entered i.0 c.0 i.1 (and_left (is_own_under (named p) receiver (type_at p c.0.name)) (keeps_virtual (outer_of p o) k (named_class p c.0)) holds)
          (and_right (is_virtual_method x) (finds_itself k (find.finds_at (named p) receiver k)) two)
          (and_right (is_own_under (named p) receiver (type_at p c.0.name)) (keeps_virtual (outer_of p o) k (named_class p c.0)) holds)

      -- what the framework calls back
      unshut : (outer_of p o).shut k ≡ false → is_shut o own.method.name ≡ false
      unshut away = untrue (is_shut o own.method.name) (λ e. true≢false (sym (listed_name p s k own.method.name o.shut own.number e) ∙ away))

      may_call : (is_outward (named p) receiver || spelled.is_common k.name k.signature) ≡ true → HasOuter p n.number ⊎ (member.is_common p entry.0.name entry.0.proto ≡ true)
      may_call e = by (or_cases (is_outward (named p) receiver) (spelled.is_common k.name k.signature) e)
        where
          by : (is_outward (named p) receiver ≡ true) ⊎ (spelled.is_common k.name k.signature ≡ true) → HasOuter p n.number ⊎ (member.is_common p entry.0.name entry.0.proto ≡ true)
          by (inl h) =
              let w = outward p o live g (length (named p).classes) n.number n.short (ap (is_outward (named p)) n.is ∙ h) in
              inl (record { top = w.top; under = inr w.climbs; short = w.short; outer = subst (λ z. is_outer p z w.top ≡ true) (object_is p o live g) w.outer })
          by (inr h) = inr (sym (common_test p entry.0.name entry.0.proto) ∙ ap (λ k. spelled.is_common k.name k.signature) key ∙ h)

      back_entered : is_own_under (named p) receiver k.class ≡ true → is_called_back (named p) (outer_of p o) receiver k x ≡ true → targeted.IsEntered p o live own.method.name
      back_entered under e =
          let three = and_left (is_virtual_method x && not ((outer_of p o).shut k) && finds_itself k (find.finds_at (named p) receiver k)) (is_outward (named p) receiver || spelled.is_common k.name k.signature) e in
          let may = and_right (is_virtual_method x && not ((outer_of p o).shut k) && finds_itself k (find.finds_at (named p) receiver k)) (is_outward (named p) receiver || spelled.is_common k.name k.signature) e in
          let two = and_left (is_virtual_method x && not ((outer_of p o).shut k)) (finds_itself k (find.finds_at (named p) receiver k)) three in
          let it = itself entry.0 (method_name p s own.method.name entry.0 entry.1) (method_proto p s own.method.name entry.0 entry.1) (ap (λ k. k.name) key) (ap (λ k. k.signature) key)
          (and_right (is_virtual_method x && not ((outer_of p o).shut k)) (finds_itself k (find.finds_at (named p) receiver k)) three) in
          inr (inr (inr (record {
            at = it.at;
            method = it.method;
            name = entry.0;
            own_at = own.at;
            own = own.method;
            kind = n.number;
            class = n.place;
            is = it.is;
            is_own = own.there;
            same = refl;
            stands = over own.at.class own.class own.is_class (subst (λ z. is_own_under (named p) receiver z ≡ true) (sym own.class_is) under);
            virtual = virtual_is (and_left (is_virtual_method x) (not ((outer_of p o).shut k)) two);
            unshut = unshut (not_true ((outer_of p o).shut k) (and_right (is_virtual_method x) (not ((outer_of p o).shut k)) two));
            finds = it.finds;
            may = may_call may;
          })))

      pub object_entered : is_own_under (named p) receiver k.class ≡ true → flags.is_static x.flags ≡ false
          → ((outer_of p o).methods k || answers_kept (named p) (outer_of p o) receiver k x || is_called_back (named p) (outer_of p o) receiver k x) ≡ true → targeted.IsEntered p o live own.method.name
      object_entered under held e = by (or_cases ((outer_of p o).methods k || answers_kept (named p) (outer_of p o) receiver k x) (is_called_back (named p) (outer_of p o) receiver k x) e)
        where
          first : ((outer_of p o).methods k ≡ true) ⊎ (answers_kept (named p) (outer_of p o) receiver k x ≡ true) → targeted.IsEntered p o live own.method.name
          first (inl h) = kept_entered under held h
          first (inr h) = answers_entered h

          by : (((outer_of p o).methods k || answers_kept (named p) (outer_of p o) receiver k x) ≡ true) ⊎ (is_called_back (named p) (outer_of p o) receiver k x ≡ true) → targeted.IsEntered p o live own.method.name
          by (inl h) = first (or_cases ((outer_of p o).methods k) (answers_kept (named p) (outer_of p o) receiver k x) h)
          by (inr h) = back_entered under h

  module _ (opens : (m : ℕ) → slice_get targets.entered.items m ≡ Some true → tables.IsOpen t m) where
    open_by : (k : MethodKey) (x : NamedMethod) (d : find.defined_method (named p) k ≡ Some x) (b : is_some x.body ≡ true) → targeted.IsEntered p o live (own k x d b).method.name → name.IsOpen (values p) facts k
    open_by k x d b e =
        let m = own k x d b in
        open_number k m.method.name (has_code k x d b) m.number (opens m.method.name (marked_at targets.entered.items m.method.name (exact.entered.all m.method.name e)))

    pub statics_open : (k : MethodKey) → IsEnteredStatic (named p) (outer_of p o) k → name.IsOpen (values p) facts k
    statics_open k e = open_by k e.method e.defined e.coded (inl ((own k e.method e.defined e.coded).at, static_entered k e.method e.defined e.coded e.static e.plain e.kept))

    pub methods_open : (k : MethodKey) → IsEnteredOn (named p) (outer_of p o) k → name.IsOpen (values p) facts k
    methods_open k e = open_by k e.method e.defined e.coded (object_entered k e.method e.defined e.coded e.receiver e.made e.under e.held e.opened)
