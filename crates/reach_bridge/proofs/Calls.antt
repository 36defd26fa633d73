-- What the calls of marked code find by name is live: what a call finds by its name alone, with all candidates of a program
-- interface that a super call names.
use Rattle.std.proofs.Common.{◌≡◌, ℕ, ◌<◌, ◌⊎◌, inl, inr, Bool, true, false, List, [], ◌∷◌, ◌++◌, length, map, Option, Some, None, refl, sym, ap, ◌∙◌, subst, lt-ltb}
use Rattle.std.specs.Prelude.{◌&&◌, cond, is_some, slice_get}
use Rattle.std.specs.List.{list_all}
use Rattle.insn_set.specs.declared.form.Insn.{Insn}
use Rattle.insn_set.specs.declared.ops.InvokeKind.{InvokeKind}
use Rattle.insn_set.specs.declared.ops.InvokeKind.TheVariants as call
use Rattle.program_model.specs.declared.pools.MethodName.{MethodName}
use Rattle.program_model.specs.declared.program.MethodAt.{MethodAt}
use Rattle.program_model.specs.declared.program.Program.{Program}
use Rattle.program_model.specs.declared.pass.Outside.{Outside}
use Rattle.program_model.specs.Lookups.{class_place, method_at}
use Rattle.program_model.specs.Texts.{has_type}
use Rattle.class_defs.specs.Places.{super_place, placed, places_of}
use Rattle.class_defs.specs.Members.{has_code, is_interface}
use Rattle.class_defs.specs.Finding.{Search, search_of, finds_from, finds_static, one_or_none, is_037, candidates, is_lowest, lowest, verdict, finds_among, lists_interface, finds_above, finds_super_037, finds_super_of}
use Rattle.class_defs.proofs.Positions.{entry_at}
use Rattle.call_graph.specs.Bases.{bases_of}
use Rattle.call_graph.specs.declared.facts.Fact.TheVariants as fact
use Rattle.call_graph.specs.declared.named.Named.TheVariants as item
use Rattle.call_graph.specs.declared.live_set.LiveSet.{LiveSet}
use Rattle.call_graph.specs.Follows as follow
use Rattle.call_graph.specs.Follows.{names_of_method, named_facts, method_facts, call_facts, found_facts}
use Rattle.call_graph.specs.Objects.{all_found}
use Rattle.call_graph.specs.Supers.{above_call, interface_call, super_037, super_found}
use Rattle.dalvik_defs.specs.Flags as remainder
use Rattle.dalvik_defs.specs.Naming.{text_at, type_at, signature_at, named}
use Rattle.dalvik_defs.specs.Under.{class_named}
use Rattle.dalvik_defs.specs.Find as find
use Rattle.dalvik_defs.specs.Find.{Found, interface_named, finds_statically}
use Rattle.dalvik_defs.specs.declared.names.MethodKey.{MethodKey}
use Rattle.dalvik_defs.specs.declared.program.NamedBody.{NamedBody}
use Rattle.dalvik_defs.specs.declared.program.NamedClass.{NamedClass}
use Rattle.pass_defs.specs.Calls.{found_by, super_candidates, may_find}
use Rattle.pass_defs.specs.Live.{is_bound, KeepsBound}
use Rattle.name_bridge.specs.Named.{search_at}
use Rattle.name_bridge.proofs.Tables.{method_is, method_class, method_name, method_proto}
use Rattle.name_bridge.proofs.Flags.{interface_flag}
use Rattle.name_bridge.proofs.Resolved.{static_by_number, super_by_number}
use Rattle.name_bridge.proofs.Candidates.{version_test, candidates_by_number}
use Rattle.removal_law.proofs.Lists.{In, here, clash, contained, in_either}
use Rattle.removal_law.proofs.Finds.{in_unfiltered, in_flat}
use Rattle.reach_bridge.specs.Names.{family_of}
use Rattle.reach.specs.Marked.{IsMarked}
use Rattle.reach_bridge.proofs.Held.{stands}
use Rattle.reach_bridge.proofs.Based.{Met, S}
use Rattle.reach_bridge.proofs.Mentioned.{nothing_in, met_back, met_one, place_held}
use Rattle.reach_bridge.proofs.Numbers.{call_short}
use Rattle.reach_bridge.proofs.Coded.{LiveCode, IsCall, live_code, named_met, body_named, insn_named, call_from}
use Rattle.reach_bridge.proofs.Upward.{own_class}
use Rattle.reach_bridge.proofs.Answering.{PlacedAmong, among_named, search_named}
use Rattle.reach_bridge.proofs.Listing.{lists_decided}

-- ---- searches by number

nothing_finds : {A : Type 0} (x : MethodAt) → Search.Nothing ≡ Search.Finds x → A
nothing_finds x e = clash true refl (ap (λ y. elim y as (λ y. Bool) [ Search.Nothing ↦ true | Search.Clash ↦ true | Search.Finds z ↦ false ]) e)

clash_finds : {A : Type 0} (x : MethodAt) → Search.Clash ≡ Search.Finds x → A
clash_finds x e = clash true refl (ap (λ y. elim y as (λ y. Bool) [ Search.Nothing ↦ true | Search.Clash ↦ true | Search.Finds z ↦ false ]) e)

same_finds : (x y : MethodAt) → Search.Finds x ≡ Search.Finds y → x ≡ y
same_finds x y e = ap (λ z. elim z as (λ z. MethodAt) [ Search.Nothing ↦ x | Search.Clash ↦ x | Search.Finds a ↦ a ]) e

found_one : (o : Option MethodAt) (x : MethodAt) → search_of o ≡ Search.Finds x → In x (one_or_none o)
found_one None x e = nothing_finds x e
found_one (Some y) x e = subst (λ z. In z (y ∷ [])) (same_finds y x e) (here [])

verdict_in : (ms : List MethodAt) (x : MethodAt) → verdict ms ≡ Search.Finds x → In x ms
verdict_in [] x e = nothing_finds x e
verdict_in (y ∷ []) x e = subst (λ z. In z (y ∷ [])) (same_finds y x e) (here [])
verdict_in (y ∷ z ∷ ms) x e = clash_finds x e

-- what candidates give is one of them
among_found : (p : Program) (cs : List ℕ) (name proto : ℕ) (x : MethodAt) → finds_among p cs name proto ≡ Search.Finds x → In x (candidates p cs name proto)
among_found p cs name proto x e = let ms = candidates p cs name proto in in_unfiltered (λ f. has_code (method_at p f) && is_lowest p ms f) x ms (verdict_in (lowest p ms) x e)

types_one : (p : Program) (k : ℕ) → k < length p.types → list_all (has_type p) (k ∷ []) ≡ true
types_one p k h = ap (λ b. b && true) (lt-ltb k (length p.types) h)

-- a program interface that a type is
record IsInterface (p : Program) (kind : ℕ) : Type 0 where
  place : ℕ
  is_place : class_place p kind ≡ Some place
  flagged : is_interface (slice_get p.classes place) ≡ true

module _ (p : Program) (o : Outside) (s : LiveSet) (g : IsMarked p o s) where
  interface_at : (kind : ℕ) → kind < length p.types → is_some (interface_named (named p) (type_at p kind)) ≡ true → IsInterface p kind
  interface_at kind lt e = by (class_named (named p) (type_at p kind)) refl e
    where
      at : (c : NamedClass) (b : Bool) → class_named (named p) (type_at p kind) ≡ Some c → remainder.is_interface c.flags ≡ b
          → is_some (elim b as (λ b. Option NamedClass) [ true ↦ Some c | false ↦ None ]) ≡ true → IsInterface p kind
      at c false i h e = clash false e refl
      at c true i h e =
          let w = own_class p o s g kind lt c i in
          record { place = w.place; is_place = w.is_place; flagged = ap is_interface w.is_class ∙ interface_flag w.class.flags ∙ ap (λ z. remainder.is_interface z.flags) w.is ∙ h }

      by : (x : Option NamedClass) → class_named (named p) (type_at p kind) ≡ x
          → is_some (elim x as (λ x. Option NamedClass) [ Some c ↦ elim (remainder.is_interface c.flags) [ true ↦ Some c | false ↦ None ] | None ↦ None ]) ≡ true → IsInterface p kind
      by None i e = clash false e refl
      by (Some c) i e = at c (remainder.is_interface c.flags) i refl e

  -- ---- what a search finds

  search_held : (x : Option MethodAt) (f : Found) → In f (found_by (search_at p (search_of x))) → Met s (found_facts p x) → (family_of p s).methods f.key ≡ true
  search_held None f i met = nothing_in f i
  search_held (Some at) f i met =
      let w = search_named p (Search.Finds at) f i in
      place_held p o s g w.0 f w.1.1 (subst (λ z. Met s (found_facts p (Some z))) (same_finds at w.0 w.1.0) met)

  -- a method at one of some places that are met is live
  all_held : (ms : List MethodAt) (f : Found) → Met s (all_found p ms) → PlacedAmong p ms f → (family_of p s).methods f.key ≡ true
  all_held ms f met w = place_held p o s g w.at f w.found (λ y i. met y (in_flat (λ at. found_facts p (Some at)) w.at y ms w.is_in i))

  -- ---- a call of marked code

  module _ (m : MethodKey) (b : NamedBody) (l : LiveCode p s m b) (i : Insn) (at : In i l.body.insns) (kind : InvokeKind) (k : MethodKey) (r : IsCall p i kind k) where
    pub short : r.number < length p.methods
    short = call_short p (S p o s g) l.own.place l.own.class l.own.is_class l.own.method l.own.there l.body l.is_body kind r.number r.args (subst (λ z. In z l.body.insns) r.insn_is at)

    pub names : In (item.Call kind r.number) (names_of_method (follow.own_method p l.number.number))
    names = body_named p o s g m b l (item.Call kind r.number) (insn_named p o s g m b l i (item.Call kind r.number) at r.names)

    call_met : Met s (call_facts p kind r.number)
    call_met = met_back p o s g (method_facts p (bases_of p) r.number) (call_facts p kind r.number)
        (met_one p o s g (named_facts p (bases_of p)) (names_of_method (follow.own_method p l.number.number)) (item.Call kind r.number) (named_met p o s g m b l) names)

    static_held : (f : Found) → In f (found_by (finds_statically (named p) k)) → Met s (found_facts p (finds_static p r.number)) → (family_of p s).methods f.key ≡ true
    static_held f i met = search_held (finds_static p r.number) f (subst (λ z. In f (found_by z)) (ap (finds_statically (named p)) (sym r.is) ∙ static_by_number p (S p o s g) r.number short) i) met

    -- whether the class that a super call names is one of the framework in an interface list of the caller
    abbrev outside : MethodName → Bool
    outside q = lists_interface p l.own.place q.class

    -- what a super call finds is forced by the method that it stands in
    super_met : (q : MethodName) → slice_get p.methods r.number ≡ Some q → kind ≡ call.Super → Met s (all_found p (super_found p l.own.place q (outside q)))
    super_met q is e y i = g.closed.entails (fact.Method l.number.number) y l.number.marked (inr (record {
      name = l.own.entry;
      caller = l.own.place;
      callee = r.number;
      called = q;
      facts = all_found p (super_found p l.own.place q (outside q));
      is_name = l.own.is_entry;
      is_caller = l.own.is_place;
      calls = contained (item.Call call.Super r.number) (names_of_method (follow.own_method p l.number.number)) (subst (λ z. In (item.Call z r.number) (names_of_method (follow.own_method p l.number.number))) e names);
      is_called = is;
      finds = record {
        lists = outside q;
        decided = λ new none. lists_decided p o s g l.own.entry.class l.own.place (method_class p (S p o s g) l.number.number l.own.entry l.own.is_entry) l.own.is_place q.class;
        is = refl;
      };
      has = contained y (all_found p (super_found p l.own.place q (outside q))) i;
    }))

    -- what the call finds is among what it may find, and so are the candidates of a program interface that it names
    super_among : (q : MethodName) (x : MethodAt) → finds_super_of p l.own.place (Some q) ≡ Search.Finds x → In x (super_found p l.own.place q (outside q))
    super_among q x e = by (is_037 p.version) e
      where
        above : finds_above p l.own.place q ≡ Search.Finds x → In x (above_call p l.own.place q)
        above e = found_one (finds_from p q.name q.proto (super_place p l.own.place)) x e

        by_flag : (place : ℕ) (b : Bool) → cond b (finds_among p (place ∷ []) q.name q.proto) (finds_above p l.own.place q) ≡ Search.Finds x → In x (interface_call p l.own.place q place b)
        by_flag place true e = among_found p (place ∷ []) q.name q.proto x e
        by_flag place false e = above e

        by_lists : (b : Bool) → cond b Search.Nothing (finds_above p l.own.place q) ≡ Search.Finds x → In x (cond b [] (above_call p l.own.place q))
        by_lists true e = nothing_finds x e
        by_lists false e = above e

        by_place : (y : Option ℕ) → finds_super_037 p l.own.place q y ≡ Search.Finds x → In x (super_037 p l.own.place q (outside q) y)
        by_place None e = by_lists (outside q) e
        by_place (Some place) e = by_flag place (is_interface (slice_get p.classes place)) e

        by : (b : Bool) → cond b (finds_super_037 p l.own.place q (class_place p q.class)) (finds_above p l.own.place q) ≡ Search.Finds x
            → In x (cond b (super_037 p l.own.place q (outside q) (class_place p q.class)) (above_call p l.own.place q))
        by true e = by_place (class_place p q.class) e
        by false e = above e

    class_is : m.class ≡ type_at p l.own.entry.class
    class_is = ap (λ z. z.class) (sym l.number.is ∙ method_is p (S p o s g) l.number.number l.own.entry l.own.is_entry)

    super_finds : (q : MethodName) → slice_get p.methods r.number ≡ Some q → (f : Found) → In f (found_by (find.finds_super (named p) m.class k)) → PlacedAmong p (super_found p l.own.place q (outside q)) f
    super_finds q is f i =
        let same : find.finds_super (named p) m.class k ≡ search_at p (finds_super_of p l.own.place (Some q)) =
        ap (λ t. find.finds_super (named p) t k) class_is
        ∙ ap (find.finds_super (named p) (type_at p l.own.entry.class)) (sym r.is)
        ∙ super_by_number p (S p o s g) g.once l.own.entry.class l.own.place (method_class p (S p o s g) l.number.number l.own.entry l.own.is_entry) l.own.is_place l.own.class l.own.is_class r.number short
        ∙ ap (λ x. search_at p (finds_super_of p l.own.place x)) is in
        let w = search_named p (finds_super_of p l.own.place (Some q)) f (subst (λ z. In f (found_by z)) same i) in
        record { at = w.0; is_in = super_among q w.0 w.1.0; found = w.1.1 }

    super_named : (q : MethodName) → slice_get p.methods r.number ≡ Some q → (f : Found) → In f (super_candidates (named p) k) → PlacedAmong p (super_found p l.own.place q (outside q)) f
    super_named q is f i =
        let key = sym r.is ∙ method_is p (S p o s g) r.number q is in
        by (find.is_037 p.version) (is_some (interface_named (named p) (type_at p q.class))) refl refl
        (subst (λ z. In f (elim (find.is_037 p.version && is_some (interface_named (named p) z.class)) as (λ b. List Found) [ true ↦ find.candidates (named p) (z.class ∷ []) z.name z.signature | false ↦ [] ])) key i)
      where
        kinds : List ℕ
        kinds = q.class ∷ []

        each : find.is_037 p.version ≡ true → (w : IsInterface p q.class) → In f (find.candidates (named p) (map (type_at p) kinds) (text_at p q.name) (signature_at p q.proto)) → PlacedAmong p (super_found p l.own.place q (outside q)) f
        each new w i =
            let at : super_found p l.own.place q (outside q) ≡ candidates p (places_of p kinds) q.name q.proto =
            ap (λ b. cond b (super_037 p l.own.place q (outside q) (class_place p q.class)) (above_call p l.own.place q)) (sym (version_test p.version) ∙ new)
            ∙ ap (super_037 p l.own.place q (outside q)) w.is_place
            ∙ ap (interface_call p l.own.place q w.place) w.flagged
            ∙ sym (ap (λ x. candidates p (placed x []) q.name q.proto) w.is_place) in
            subst (λ l. PlacedAmong p l f) (sym at) (among_named p (candidates p (places_of p kinds) q.name q.proto) (find.candidates (named p) (map (type_at p) kinds) (text_at p q.name) (signature_at p q.proto))
            (candidates_by_number p (S p o s g) q.name q.proto (method_name p (S p o s g) r.number q is) (method_proto p (S p o s g) r.number q is) g.once kinds (types_one p q.class (method_class p (S p o s g) r.number q is))) f i)

        by : (b d : Bool) → find.is_037 p.version ≡ b → is_some (interface_named (named p) (type_at p q.class)) ≡ d
            → In f (elim (b && d) as (λ b. List Found) [ true ↦ find.candidates (named p) (type_at p q.class ∷ []) (text_at p q.name) (signature_at p q.proto) | false ↦ [] ]) → PlacedAmong p (super_found p l.own.place q (outside q)) f
        by false d new e i = nothing_in f i
        by true false new e i = nothing_in f i
        by true true new e i = each new (interface_at q.class (method_class p (S p o s g) r.number q is) e) i

    super_held : (f : Found) → kind ≡ call.Super → In f (found_by (find.finds_super (named p) m.class k) ++ super_candidates (named p) k) → (family_of p s).methods f.key ≡ true
    super_held f e i = all_held (super_found p l.own.place q.0 (outside q.0)) f (super_met q.0 q.1 e) (either (in_either f (found_by (find.finds_super (named p) m.class k)) (super_candidates (named p) k) i))
      where
        q : (q : MethodName) × (slice_get p.methods r.number ≡ Some q)
        q = entry_at p.methods r.number short

        either : In f (found_by (find.finds_super (named p) m.class k)) ⊎ In f (super_candidates (named p) k) → PlacedAmong p (super_found p l.own.place q.0 (outside q.0)) f
        either (inl j) = super_finds q.0 q.1 f j
        either (inr j) = super_named q.0 q.1 f j

    pub bound_held : (f : Found) → is_bound kind ≡ true → In f (may_find (named p) m.class kind k) → (family_of p s).methods f.key ≡ true
    bound_held f bound i = by kind refl bound i call_met
      where
        by : (z : InvokeKind) → kind ≡ z → is_bound z ≡ true → In f (may_find (named p) m.class z k) → Met s (call_facts p z r.number) → (family_of p s).methods f.key ≡ true
        by call.Static e bound i met = static_held f i met
        by call.Direct e bound i met = static_held f i met
        by call.Super e bound i met = super_held f e i
        by call.Virtual e bound i met = clash false bound refl
        by call.Interface e bound i met = clash false bound refl

  pub keeps_bound : KeepsBound (named p) (family_of p s)
  keeps_bound m b kind k args h c bound f i =
      let l = live_code p o s g m b h in
      let r = call_from p o s g m b l kind k args c in
      bound_held m b l r.0 r.1.0 kind k r.1.1 f bound (stands (may_find (named p) m.class kind k) f i)
