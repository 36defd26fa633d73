-- A virtual or interface call of a reached position, which by names finds a method on an object of a made class, is one of the
-- calls that the tables of call targets tell of: it has a link to a method with code, and is marked where it may leave the program.
use Rattle.std.proofs.Common.{◌≡◌, ℕ, zero, suc, nat_eq, ◌+◌, ◌*◌, ◌<◌, ◌⊎◌, inl, inr, Bool, true, false, true≢false, List, [], ◌∷◌, length, Option, Some, None, refl, sym, ap, ◌∙◌, subst, arith}
use Rattle.std.specs.Prelude.{◌||◌, cond, is_some, slice_get, option_and_then, Contains}
use Rattle.std.specs.Option.{option_map}
use Rattle.insn_set.specs.declared.ops.InvokeKind.{InvokeKind}
use Rattle.insn_set.specs.declared.ops.InvokeKind.TheVariants as call
use Rattle.program_model.specs.Lookups as look
use Rattle.program_model.specs.Lookups.{class_place}
use Rattle.program_model.specs.declared.pass.Outside.{Outside}
use Rattle.program_model.specs.declared.pools.MethodName.{MethodName}
use Rattle.program_model.specs.declared.program.Class.{Class}
use Rattle.program_model.specs.declared.program.Method.{Method}
use Rattle.program_model.specs.declared.program.MethodAt.{MethodAt}
use Rattle.program_model.specs.declared.program.Program.{Program}
use Rattle.class_defs.specs.Finding as look_up
use Rattle.class_defs.specs.Finding.{finds_at}
use Rattle.class_defs.specs.Members.{has_code}
use Rattle.class_defs.specs.Members as member
use Rattle.class_defs.proofs.Positions.{entry_at, place_entry}
use Rattle.class_defs.proofs.WellFormed.{Sound}
use Rattle.call_graph.specs.Above.{Climbs}
use Rattle.call_graph.specs.Bases.{object_number}
use Rattle.call_graph.specs.Follows.{class_of}
use Rattle.call_graph.specs.declared.live_set.LiveSet.{LiveSet}
use Rattle.call_targets.specs.Targeted as targeted
use Rattle.call_targets.specs.Targeted.{call_at, interface_of, is_on, names_interface, IsAsked, IsBare, IsCalledOn, IsTargeted, IsUnder}
use Rattle.call_targets.specs.declared.table.Targets.{Targets}
use Rattle.dalvik_defs.specs.Find as find
use Rattle.dalvik_defs.specs.Find.{Found, interface_named}
use Rattle.dalvik_defs.specs.Flags as flags
use Rattle.dalvik_defs.specs.Names.{Text, object_type, text_eq}
use Rattle.dalvik_defs.specs.Naming.{named, named_class, signature_at, text_at, type_at}
use Rattle.dalvik_defs.specs.Outer.{outer_of}
use Rattle.dalvik_defs.specs.Under.{class_named, defines, is_own_under}
use Rattle.dalvik_defs.specs.declared.names.MethodKey.{MethodKey}
use Rattle.dalvik_defs.specs.declared.program.NamedClass.{NamedClass}
use Rattle.dalvik_defs.proofs.Calm.{text_sound}
use Rattle.name_bridge.specs.Named.{class_at}
use Rattle.name_bridge.specs.Named as names
use Rattle.name_bridge.specs.Named.{search_at}
use Rattle.name_bridge.proofs.Candidates.{finds_at_by_number}
use Rattle.name_bridge.proofs.Classes.{class_by_number}
use Rattle.name_bridge.proofs.Flags.{interface_flag}
use Rattle.name_bridge.proofs.Tables.{method_class, method_is, method_name, method_proto}
use Rattle.removal_law.proofs.Lists.{contained}
use Rattle.facts.specs.declared.facts.Facts as table
use Rattle.closed_facts.specs.Closed.{ReachesLive}
use Rattle.closed_facts.specs.Found as number
use Rattle.pass_defs.specs.Calls.{is_within}
use Rattle.pass_defs.specs.Live.{IsMade, unconditional}
use Rattle.reach.specs.Marked.{IsMarked}
use Rattle.reach_bridge.proofs.Based.{S}
use Rattle.reach_bridge.proofs.Climbing.{climbs, object_found}
use Rattle.reach_bridge.proofs.Held.{at_stands}
use Rattle.reach_bridge.proofs.Upward.{own_class}
use Rattle.run_facts.specs.Closed as name
use Rattle.facts_kept.specs.Names.{named_facts, values}
use Rattle.facts_kept.proofs.Calling.{Goes, found_number, place_of}
use Rattle.facts_kept.proofs.Inverse.{IsCall}
use Rattle.facts_kept.proofs.Made.{MadeNumber, made_number}
use Rattle.facts_kept.proofs.Places.{Here}

-- ---- marks

-- a mark stands at its number
pub marked_at : (marks : List Bool) (n : ℕ) → is_on marks n ≡ true → slice_get marks n ≡ Some true
marked_at [] n e = absurd (true≢false (sym e))
marked_at (b ∷ bs) zero e = ap Some e
marked_at (b ∷ bs) (suc n) e = marked_at bs n e

-- the number of the calls that name a method in one way
pub call_is : (kind : InvokeKind) (method : ℕ) (interface : Bool) → interface_of kind ≡ Some interface → number.call_number method kind ≡ Some (call_at method interface)
call_is call.Virtual method interface e =
    let same : false ≡ interface = cc in
    let one : 2 * method ≡ 2 * method + 0 = omega arith in
    ap Some one ∙ ap (λ b. Some (2 * method + cond b 1 0)) same
call_is call.Interface method interface e =
    let same : true ≡ interface = cc in
    ap (λ b. Some (2 * method + cond b 1 0)) same
call_is call.Static method interface e = absurd (cc)
call_is call.Direct method interface e = absurd (cc)
call_is call.Super method interface e = absurd (cc)

module _ (p : Program) (o : Outside) (live : LiveSet) (g : IsMarked p o live) where
  abbrev s : Sound p
  s = S p o live g

  -- a type under another by name is so by number
  pub stands_under : (n m : ℕ) → n < length p.types → m < length p.types → is_own_under (named p) (type_at p n) (type_at p m) ≡ true → IsUnder p n m
  stands_under n m hn hm e = inr (climbs p o live g (length (named p).classes) n m hn hm e)

  pub is_under : (n m : ℕ) → n < length p.types → m < length p.types → is_within (named p) (type_at p n) (type_at p m) ≡ true → IsUnder p n m
  is_under n m hn hm e = by (text_eq (type_at p m) object_type) refl e
    where
      by : (b : Bool) → text_eq (type_at p m) object_type ≡ b → (b || is_own_under (named p) (type_at p n) (type_at p m)) ≡ true → IsUnder p n m
      by true h e = inl (subst (Climbs p (object_number p)) (object_found p o live g m hm (text_sound (type_at p m) object_type h)) (Climbs.Itself (object_number p)))
      by false h e = stands_under n m hn hm e

  -- ---- a method that isn't found, or without code

  nowhere : (at : MethodAt) → names.found_at p at ≡ None → look.method_at p at ≡ None
  nowhere at e = by_class (slice_get p.classes at.class) e
    where
      by_method : (c : Class) (x : Option Method) → names.found_there p c x ≡ None → x ≡ None
      by_method c None h = refl
      by_method c (Some m) h = absurd (cc)

      by_class : (x : Option Class) → names.found_of p at.place x ≡ None → option_and_then (λ c. slice_get c.methods at.place) x ≡ None
      by_class None h = refl
      by_class (Some c) h = by_method c (slice_get c.methods at.place) h

  bare_at : (y : look_up.Search) → name.FindsNoCode (values p) (search_at p y) → IsBare p y
  bare_at look_up.Nothing h = tt
  bare_at look_up.Clash h = h
  bare_at (look_up.Finds at) h = by (names.found_at p at) refl h
    where
      by : (x : Option Found) → names.found_at p at ≡ x → name.FindsNoCode (values p) (names.finds x) → has_code (look.method_at p at) ≡ false
      by None e h = ap has_code (nowhere at e)
      by (Some f) e h = let n = found_number p s g.once at f e in ap has_code n.there ∙ n.coded ∙ h

  -- ---- a call at a reached position

  module _ (t : table.Facts) (lives : ReachesLive p live t) (k m : MethodKey) (n : ℕ) (kind : InvokeKind) (args : List ℕ) (at : name.At (values p) (named p) (named_facts p t) k n) (h : Here p s t k n at)
      (c : IsCall p h.here.insn kind m args) (low : c.method < length p.methods) (interface : Bool) (way : interface_of kind ≡ Some interface) where
    called : IsCalledOn p live interface c.method
    called = record {
      at = h.code.at;
      caller = h.here.method;
      body = h.here.body;
      kind = kind;
      args = args;
      is_caller = h.here.has_method;
      live_caller = lives h.code.at n h.here;
      has_body = h.here.has_body;
      calls = subst (Contains h.here.body.insns) c.is (contained h.here.insn h.here.body.insns (at_stands h.here.body.insns n h.here.insn h.here.has_insn));
      finds_by_object = way;
    }

    q : (q : MethodName) × (slice_get p.methods c.method ≡ Some q)
    q = entry_at p.methods c.method low

    key : m ≡ record { class = type_at p q.0.class; name = text_at p q.0.name; signature = signature_at p q.0.proto }
    key = sym c.named ∙ method_is p s c.method q.0 q.1

    class_is : m.class ≡ type_at p q.0.class
    class_is = ap (λ k. k.class) key

    module _ (u : Text) (made : MadeNumber p live u) (under : is_within (named p) u m.class ≡ true) where
      asked : IsAsked p live interface c.method q.0 made.place
      asked = record {
        called = called;
        is_name = q.1;
        kind = made.number;
        made = record { made = made.marked; is_class = made.is_place };
        under = is_under made.number q.0.class made.short (method_class p s c.method q.0 q.1)
            (subst (λ z. is_within (named p) z (type_at p q.0.class) ≡ true) (sym made.is) (subst (λ z. is_within (named p) u z ≡ true) class_is under));
      }

      -- what an object of the class finds
      finds_is : find.finds_at (named p) u m ≡ search_at p (finds_at p made.place q.0.name q.0.proto)
      finds_is =
          ap (λ z. find.finds_at (named p) z m) (sym made.is) ∙ ap (find.finds_at (named p) (type_at p made.number)) key
          ∙ finds_at_by_number p s q.0.name q.0.proto (method_name p s c.method q.0 q.1) (method_proto p s c.method q.0 q.1) g.once made.number made.place (type_at p q.0.class) made.short made.is_place

    module _ (targets : Targets) (exact : IsTargeted p o live targets) where
      leaving : targeted.MayLeave p live (call_at c.method interface) → number.MayLeave p targets h.code.at.class c.method kind
      leaving why = number.Marked kind (call_at c.method interface) (call_is kind c.method interface way) (marked_at targets.leaves.items (call_at c.method interface) (exact.leaves.all (call_at c.method interface) why))

      -- a made class whose objects find no code
      pub leaves_bare : (u : Text) → IsMade (named p) (outer_of p o) unconditional u → is_within (named p) u m.class ≡ true → name.FindsNoCode (values p) (find.finds_at (named p) u m)
          → number.MayLeave p targets h.code.at.class c.method kind
      leaves_bare u is under none =
          let made = made_number p o live g u is in
          leaving (inr (record {
            interface = interface;
            method = c.method;
            name = q.0;
            class = made.place;
            asked = asked u made under;
            bare = bare_at (finds_at p made.place q.0.name q.0.proto) (subst (name.FindsNoCode (values p)) (finds_is u made under) none);
            is_call = refl;
          }))

      -- what a made class finds
      pub object_goes : (u : Text) (f : Found) → IsMade (named p) (outer_of p o) unconditional u → is_within (named p) u m.class ≡ true → find.finds_at (named p) u m ≡ find.Finds f
          → Goes p s g.once targets h.code.at.class c.method kind f
      object_goes u f is under e =
          let made = made_number p o live g u is in
          let x = place_of p s g.once (finds_at p made.place q.0.name q.0.proto) f (sym (finds_is u made under) ∙ e) in
          let own = found_number p s g.once x.at f x.there in
          record {
            has_code = own.has_code;
            enters = λ coded. record {
              own = own.method.name;
              is_number = own.is_number;
              may = subst (number.MayCall p targets h.code.at.class c.method kind own.method.name) (sym coded)
                  (number.Linked kind (record { call = call_at c.method interface; method = own.method.name }) (call_is kind c.method interface way)
                  (exact.links (record { call = call_at c.method interface; method = own.method.name }) (record {
                    interface = interface;
                    method = c.method;
                    name = q.0;
                    class = made.place;
                    at = x.at;
                    found = own.method;
                    asked = asked u made under;
                    finds = x.is;
                    is_found = own.there;
                    coded = own.coded ∙ coded;
                    is_call = refl;
                    is_method = refl;
                  })));
              has_code = own.has_code;
            };
            leaves = λ bare. leaves_bare u is under (subst (name.FindsNoCode (values p)) (sym e) bare);
          }

      -- a call that leaves by its name alone
      by_name : (interface ≡ true) ⊎ ((class_place p q.0.class ≡ None) ⊎ (names_interface p q.0.class ≡ true)) → number.MayLeave p targets h.code.at.class c.method kind
      by_name why = leaving (inl (record { interface = interface; method = c.method; name = q.0; is_name = q.1; why = why; is_call = refl }))

      pub leaves_by_way : interface ≡ true → number.MayLeave p targets h.code.at.class c.method kind
      leaves_by_way e = by_name (inl e)

      none_class : (x : Option ℕ) → class_place p q.0.class ≡ x → defines (named p) (type_at p q.0.class) ≡ false → class_place p q.0.class ≡ None
      none_class None e d = e
      none_class (Some i) e d = by (slice_get p.classes i) refl
        where
          is : class_named (named p) (type_at p q.0.class) ≡ class_at p i
          is = class_by_number p s q.0.class (method_class p s c.method q.0 q.1) ∙ ap (option_and_then (class_at p)) e

          by : (x : Option Class) → slice_get p.classes i ≡ x → class_place p q.0.class ≡ None
          by None f = let r = place_entry (λ k. nat_eq k.name q.0.class) p.classes i e in absurd (let w : None ≡ Some r.entry = sym f ∙ r.is in cc)
          by (Some d') f = absurd (true≢false (ap (λ o. elim o as (λ o. Bool) [ Some c ↦ true | None ↦ false ]) (sym (is ∙ ap (option_map (named_class p)) f)) ∙ d))

      pub leaves_undefined : defines (named p) m.class ≡ false → number.MayLeave p targets h.code.at.class c.method kind
      leaves_undefined d = by_name (inr (inl (none_class (class_place p q.0.class) refl (sym (ap (defines (named p)) class_is) ∙ d))))

      interface_at : is_some (interface_named (named p) (type_at p q.0.class)) ≡ true → names_interface p q.0.class ≡ true
      interface_at e = by (class_named (named p) (type_at p q.0.class)) refl e
        where
          low_class : q.0.class < length p.types
          low_class = method_class p s c.method q.0 q.1

          flagged : (d : NamedClass) (b : Bool) → flags.is_interface d.flags ≡ b → is_some (elim b as (λ b. Option NamedClass) [ true ↦ Some d | false ↦ None ]) ≡ true → flags.is_interface d.flags ≡ true
          flagged d true i f = i
          flagged d false i f = absurd (true≢false (sym f))

          by : (x : Option NamedClass) → class_named (named p) (type_at p q.0.class) ≡ x
              → is_some (elim x as (λ x. Option NamedClass) [ Some c ↦ elim (flags.is_interface c.flags) [ true ↦ Some c | false ↦ None ] | None ↦ None ]) ≡ true → names_interface p q.0.class ≡ true
          by None i f = absurd (true≢false (sym f))
          by (Some d) i f =
              let w = own_class p o live g q.0.class low_class d i in
              let at : class_of p q.0.class ≡ Some w.class = ap (option_and_then (slice_get p.classes)) w.is_place ∙ w.is_class in
              ap member.is_interface at ∙ interface_flag w.class.flags ∙ ap (λ z. flags.is_interface z.flags) w.is ∙ flagged d (flags.is_interface d.flags) refl f

      pub leaves_interface : is_some (interface_named (named p) m.class) ≡ true → number.MayLeave p targets h.code.at.class c.method kind
      leaves_interface e = by_name (inr (inr (interface_at (sym (ap (λ u. is_some (interface_named (named p) u)) class_is) ∙ e))))
