-- What a call may give by names is among what const_prop takes for its result by number.
use Rattle.std.proofs.Common.{◌≡◌, inl, inr, ℕ, ◌<◌, Bool, true, false, true≢false, List, [], ◌∷◌, length, Option, Some, None, refl, sym, ap, ◌∙◌, subst}
use Rattle.std.specs.Prelude.{◌&&◌, ◌||◌, cond, if◌then◌else◌, is_some, slice_get, slice_index_or, option_and_then, Contains}
use Rattle.std.specs.Option.{option_map}
use Rattle.lemmas.proofs.Bools.{clash}
use Rattle.lemmas.proofs.Lists.{got_short}
use Rattle.insn_set.specs.declared.ops.InvokeKind.{InvokeKind}
use Rattle.insn_set.specs.declared.ops.InvokeKind.TheVariants as call
use Rattle.program_model.specs.Lookups as look
use Rattle.program_model.specs.Lookups.{class_place}
use Rattle.program_model.specs.declared.body.Body.{Body}
use Rattle.program_model.specs.declared.pass.Outside.{Outside}
use Rattle.program_model.specs.declared.pools.MethodName.{MethodName}
use Rattle.program_model.specs.declared.program.Class.{Class}
use Rattle.program_model.specs.declared.program.Method.{Method}
use Rattle.program_model.specs.declared.program.MethodAt.{MethodAt}
use Rattle.program_model.specs.declared.program.Program.{Program}
use Rattle.class_defs.specs.Finding as look_up
use Rattle.class_defs.specs.Finding.{Search, by_entry, candidates, finds_above, finds_among, finds_at, finds_from, finds_static, finds_super, finds_super_037, is_037, lowest, search_of, verdict}
use Rattle.class_defs.specs.Members.{has_code, is_interface}
use Rattle.class_defs.specs.Places.{interface_places, is_under, super_place}
use Rattle.class_defs.proofs.WellFormed.{Sound}
use Rattle.hierarchy.specs.Ranks.{IsRanked}
use Rattle.call_graph.specs.declared.live_set.LiveSet.{LiveSet}
use Rattle.call_targets.specs.declared.table.Targets.{Targets}
use Rattle.dalvik_defs.specs.Find as find
use Rattle.dalvik_defs.specs.Find.{Found, interface_named}
use Rattle.dalvik_defs.specs.Flags as flags
use Rattle.dalvik_defs.specs.Names.{Text, object_type, text_eq}
use Rattle.dalvik_defs.specs.Naming.{method_at, named, named_class, signature_at, text_at, type_at}
use Rattle.dalvik_defs.specs.Outer.{outer_of}
use Rattle.dalvik_defs.specs.Under.{class_named, defines, is_own_under}
use Rattle.dalvik_defs.specs.declared.names.MethodKey.{MethodKey}
use Rattle.dalvik_defs.specs.declared.program.NamedClass.{NamedClass}
use Rattle.dalvik_defs.proofs.Calm.{text_sound}
use Rattle.name_bridge.specs.Named as names
use Rattle.name_bridge.specs.Named.{class_at, search_at}
use Rattle.name_bridge.proofs.Above.{under_by_number}
use Rattle.name_bridge.proofs.Candidates.{finds_at_by_number}
use Rattle.name_bridge.proofs.Classes.{class_by_number}
use Rattle.name_bridge.proofs.Flags.{interface_flag}
use Rattle.name_bridge.proofs.Tables.{method_class, method_is, method_name, method_proto}
use Rattle.pass_defs.specs.Calls.{is_within}
use Rattle.pass_defs.specs.Facts as by_name
use Rattle.domains.specs.Values.{any_value, Parts}
use Rattle.facts.specs.declared.facts.Facts.{Facts}
use Rattle.reach.specs.Marked.{IsMarked}
use Rattle.reach_bridge.proofs.Based.{S}
use Rattle.removal_bridge.proofs.Formed.{no_object}
use Rattle.run_facts.specs.Closed as name
use Rattle.facts_kept.specs.Names.{method_number, named_facts, result_by, values}
use Rattle.facts_kept.proofs.Calling.{FoundNumber, found_number, place_of, statically_is, super_is}
use Rattle.facts_kept.proofs.Made.{made_number, MadeNumber}
use Rattle.facts_kept.proofs.Numbers.{number_of_method}
use Rattle.const_prop.specs.Given.{above_value, among_value, call_value, found_value, kind_value, method_value, named_value, receiver_value, super_value, virtual_value}
use Rattle.facts_kept.proofs.Classes.{place_short, placed_class, super_interface, super_short}
use Rattle.facts_kept.proofs.Joins.{any_answers, below_any, Answers, Under}
use Rattle.facts_kept.proofs.Supers.{bare_value, lowest_given}
use Rattle.facts_kept.proofs.Virtual.{given_at}

module _ (p : Program) (o : Outside) (live : LiveSet) (g : IsMarked p o live) (targets : Targets) (r : IsRanked p) (listed : (c u : ℕ) → Contains (interface_places p c) u → is_interface (slice_get p.classes u) ≡ true) (t : Facts) where
  abbrev s : Sound p
  s = S p o live g

  abbrev facts : by_name.Facts Parts
  facts = named_facts p t

  -- ---- what is found

  named_result : (at : MethodAt) (f : Found) → names.found_at p at ≡ Some f → facts.results f.key ≡ found_value p t (Some at)
  named_result at f e = by n.method.body refl
    where
      n : FoundNumber p s g.once at f
      n = found_number p s g.once at f e

      there : found_value p t (Some at) ≡ method_value p t (Some n.method)
      there = ap (method_value p t) n.there

      by : (b : Option Body) → n.method.body ≡ b → facts.results f.key ≡ found_value p t (Some at)
      by (Some b) i =
          ap (λ c. if c then result_by t (method_number p f.key) else any_value) (n.has_code ∙ sym n.coded ∙ ap is_some i)
          ∙ ap (result_by t) (number_of_method p s f.key n.method.name n.is_number)
          ∙ sym (ap (λ b. elim b as (λ b. Parts) [ Some x ↦ slice_index_or t.results.items n.method.name t.any | None ↦ any_value ]) i) ∙ sym there
      by None i =
          ap (λ c. if c then result_by t (method_number p f.key) else any_value) (n.has_code ∙ sym n.coded ∙ ap is_some i)
          ∙ sym (ap (λ b. elim b as (λ b. Parts) [ Some x ↦ slice_index_or t.results.items n.method.name t.any | None ↦ any_value ]) i) ∙ sym there

  nowhere : (at : MethodAt) → names.found_at p at ≡ None → look.method_at p at ≡ None
  nowhere at e = by_class (slice_get p.classes at.class) e
    where
      by_method : (c : Class) (x : Option Method) → names.found_there p c x ≡ None → x ≡ None
      by_method c None h = refl
      by_method c (Some m) h = absurd (cc)

      by_class : (x : Option Class) → names.found_of p at.place x ≡ None → option_and_then (λ c. slice_get c.methods at.place) x ≡ None
      by_class None h = refl
      by_class (Some c) h = by_method c (slice_get c.methods at.place) h

  left_value : (at : MethodAt) → name.FindsNoCode (values p) (search_at p (look_up.Finds at)) → found_value p t (Some at) ≡ any_value
  left_value at h = by (names.found_at p at) refl h
    where
      by : (x : Option Found) → names.found_at p at ≡ x → name.FindsNoCode (values p) (names.finds x) → found_value p t (Some at) ≡ any_value
      by None e h = bare_value p t at (ap has_code (nowhere at e))
      by (Some f) e h = let n = found_number p s g.once at f e in bare_value p t at (ap has_code n.there ∙ n.coded ∙ h)

  answered_given : (v : Parts) (y : Search) (f : Found) → Answers p t v y → search_at p y ≡ find.Finds f → Under (facts.results f.key) v
  answered_given v y f a e =
      let x = place_of p s g.once y f e in
      subst (λ z. Under z v) (sym (named_result x.at f x.there)) (subst (λ y. Answers p t v y) x.is a)

  answered_left : (v : Parts) (y : Search) → Answers p t v y → name.FindsNoCode (values p) (search_at p y) → Under any_value v
  answered_left v look_up.Nothing a h = a
  answered_left v look_up.Clash a h = absurd h
  answered_left v (look_up.Finds at) a h = subst (λ z. Under z v) (left_value at h) a

  itself : (v : Parts) → Under v v
  itself v d h = h

  option_answers : (x : Option MethodAt) → Answers p t (found_value p t x) (search_of x)
  option_answers None = itself any_value
  option_answers (Some at) = itself (found_value p t (Some at))

  -- ---- a call that names a class of the program

  module _ (class : ℕ) (c : Class) (is_class : slice_get p.classes class ≡ Some c) (method : ℕ) (q : MethodName) (is_name : slice_get p.methods method ≡ Some q) (top : ℕ) (is_top : class_place p q.class ≡ Some top)
      (m : MethodKey) (is_key : method_at p method ≡ m) where
    low : method < length p.methods
    low = got_short p.methods method q is_name

    key : m ≡ record { class = type_at p q.class; name = text_at p q.name; signature = signature_at p q.proto }
    key = sym is_key ∙ method_is p s method q is_name

    class_is : m.class ≡ type_at p q.class
    class_is = ap (λ (k : MethodKey). k.class) key

    class_low : q.class < length p.types
    class_low = method_class p s method q is_name

    static_answers : Answers p t (found_value p t (finds_from p q.name q.proto (Some top))) (search_of (finds_static p method))
    static_answers = subst (λ x. Answers p t (found_value p t (finds_from p q.name q.proto (Some top))) (search_of x))
        (sym (ap (λ e. by_entry (λ (q : MethodName). finds_from p q.name q.proto (class_place p q.class)) e) is_name ∙ ap (finds_from p q.name q.proto) is_top)) (option_answers (finds_from p q.name q.proto (Some top)))

    -- ---- super calls

    above_answers : Answers p t (above_value p t q.name q.proto (super_place p class)) (finds_above p class q)
    above_answers = by (super_place p class)
      where
        by : (x : Option ℕ) → Answers p t (above_value p t q.name q.proto x) (search_of (finds_from p q.name q.proto x))
        by None = any_answers p t (search_of (finds_from p q.name q.proto None))
        by (Some u) = option_answers (finds_from p q.name q.proto (Some u))

    super_answers : Answers p t (super_value p t class q.name q.proto top) (finds_super p class method)
    super_answers = subst (λ y. Answers p t (super_value p t class q.name q.proto top) y) (sym found) (by (is_interface (slice_get p.classes top)) (is_037 p.version))
      where
        among : Search
        among = verdict (lowest p (candidates p (top ∷ []) q.name q.proto))

        found : finds_super p class method ≡ cond (is_037 p.version) (cond (is_interface (slice_get p.classes top)) (finds_among p (top ∷ []) q.name q.proto) (finds_above p class q)) (finds_above p class q)
        found = ap (look_up.finds_super_of p class) is_name ∙ ap (λ x. cond (is_037 p.version) (finds_super_037 p class q x) (finds_above p class q)) is_top

        by : (a b : Bool) → Answers p t (if a && b then among_value p t (candidates p (top ∷ []) q.name q.proto) else above_value p t q.name q.proto (super_place p class))
            (cond b (cond a (finds_among p (top ∷ []) q.name q.proto) (finds_above p class q)) (finds_above p class q))
        by true true = lowest_given p r t (candidates p (top ∷ []) q.name q.proto)
        by true false = above_answers
        by false true = above_answers
        by false false = above_answers

    -- ---- calls on objects

    top_named : class_named (named p) m.class ≡ Some (named_class p (placed_class p q.class top is_top).class)
    top_named = ap (class_named (named p)) class_is ∙ class_by_number p s q.class class_low ∙ ap (option_and_then (class_at p)) is_top ∙ ap (option_map (named_class p)) (placed_class p q.class top is_top).is

    module _ (plain : is_interface (slice_get p.classes top) ≡ false) where
      module _ (u : Text) (made : MadeNumber p live u) (within : is_within (named p) u m.class ≡ true) where
        finds_is : find.finds_at (named p) u m ≡ search_at p (finds_at p made.place q.name q.proto)
        finds_is =
            ap (λ z. find.finds_at (named p) z m) (sym made.is) ∙ ap (find.finds_at (named p) (type_at p made.number)) key
            ∙ finds_at_by_number p s q.name q.proto (method_name p s method q is_name) (method_proto p s method q is_name) g.once made.number made.place (type_at p q.class) made.short made.is_place

        stands : is_under p made.place top ≡ true
        stands = by (text_eq m.class object_type) refl within
          where
            is_defined : Option NamedClass → Bool
            is_defined x = elim x as (λ x. Bool) [ Some c ↦ true | None ↦ false ]

            by : (b : Bool) → text_eq m.class object_type ≡ b → (b || is_own_under (named p) u m.class) ≡ true → is_under p made.place top ≡ true
            by true i e = clash (defines (named p) m.class) (ap is_defined top_named) (ap (defines (named p)) (text_sound m.class object_type i) ∙ no_object p g.formed)
            by false i e = sym (under_by_number p s made.number q.class made.place top made.short class_low made.is_place is_top)
                ∙ ap (λ a. is_own_under (named p) a (type_at p q.class)) made.is ∙ ap (is_own_under (named p) u) (sym class_is) ∙ e

        object_answers : Answers p t (virtual_value p t q.name q.proto top) (finds_at p made.place q.name q.proto)
        object_answers = given_at p r (super_short p) q.name q.proto top (place_short p q.class top is_top) plain listed (super_interface p g.formed) t made.place (got_short p.classes made.place made.class made.is_class) stands

      virtual_left : (x : ℕ → Parts) (args : List ℕ) → name.MayLeave (values p) (named p) (outer_of p o) (type_at p c.name) x args call.Virtual m → Under any_value (virtual_value p t q.name q.proto top)
      virtual_left x args (inl undefined) = clash (defines (named p) m.class) (ap (λ x. elim x as (λ x. Bool) [ Some c ↦ true | None ↦ false ]) top_named) undefined
      virtual_left x args (inr (inl interface)) = clash (is_interface (slice_get p.classes top)) is_one plain
        where
          k : Class
          k = (placed_class p q.class top is_top).class

          flagged : (d : NamedClass) (b : Bool) → flags.is_interface d.flags ≡ b → is_some (elim b as (λ b. Option NamedClass) [ true ↦ Some d | false ↦ None ]) ≡ true → flags.is_interface d.flags ≡ true
          flagged d true i f = i
          flagged d false i f = absurd (true≢false (sym f))

          is_one : is_interface (slice_get p.classes top) ≡ true
          is_one = ap is_interface (placed_class p q.class top is_top).is ∙ interface_flag k.flags ∙ flagged (named_class p k) (flags.is_interface (named_class p k).flags) refl
              (ap (λ x. is_some (elim x as (λ x. Option NamedClass) [ Some c ↦ elim (flags.is_interface c.flags) [ true ↦ Some c | false ↦ None ] | None ↦ None ])) (sym top_named) ∙ interface)
      virtual_left x args (inr (inr y)) =
          let made = made_number p o live g y.class y.made in
          answered_left (virtual_value p t q.name q.proto top) (finds_at p made.place q.name q.proto) (object_answers y.class made y.within) (subst (name.FindsNoCode (values p)) (finds_is y.class made y.within) y.bare)

    -- ---- all calls

    -- of an interface anything is taken
    by_receiver : (v : Parts) → (is_interface (slice_get p.classes top) ≡ false → Under v (virtual_value p t q.name q.proto top)) → Under v (receiver_value p t q.name q.proto top)
    by_receiver v h = by (is_interface (slice_get p.classes top)) refl
      where
        by : (b : Bool) → is_interface (slice_get p.classes top) ≡ b → Under v (if b then any_value else virtual_value p t q.name q.proto top)
        by true e = below_any v
        by false e = h e

    module _ (x : ℕ → Parts) (args : List ℕ) where
      given : (kind : InvokeKind) (f : Found) → name.MayCall (values p) (named p) (outer_of p o) (type_at p c.name) x args kind m f → Under (facts.results f.key) (kind_value p t class kind q.name q.proto top)
      given call.Static f (name.Statically k g2 e) = answered_given (found_value p t (finds_from p q.name q.proto (Some top))) (search_of (finds_static p method)) f static_answers (sym (statically_is p s g.once targets method m low is_key) ∙ e)
      given call.Direct f (name.Directly k g2 e) = answered_given (found_value p t (finds_from p q.name q.proto (Some top))) (search_of (finds_static p method)) f static_answers (sym (statically_is p s g.once targets method m low is_key) ∙ e)
      given call.Super f (name.Above k g2 e) = answered_given (super_value p t class q.name q.proto top) (finds_super p class method) f super_answers (sym (super_is p s g.once targets class method c m is_class low is_key) ∙ e)
      given call.Virtual f (name.Virtually k g2 u may made within e) =
          let n = made_number p o live g u made in
          by_receiver (facts.results f.key) (λ plain. answered_given (virtual_value p t q.name q.proto top) (finds_at p n.place q.name q.proto) f (object_answers plain u n within) (sym (finds_is plain u n within) ∙ e))
      given call.Interface f (name.ByInterface k g2 u may made within e) = below_any (facts.results f.key)

      left : (kind : InvokeKind) → name.MayLeave (values p) (named p) (outer_of p o) (type_at p c.name) x args kind m → Under any_value (kind_value p t class kind q.name q.proto top)
      left call.Static h = answered_left (found_value p t (finds_from p q.name q.proto (Some top))) (search_of (finds_static p method)) static_answers (subst (name.FindsNoCode (values p)) (statically_is p s g.once targets method m low is_key) h)
      left call.Direct h = answered_left (found_value p t (finds_from p q.name q.proto (Some top))) (search_of (finds_static p method)) static_answers (subst (name.FindsNoCode (values p)) (statically_is p s g.once targets method m low is_key) h)
      left call.Super h = answered_left (super_value p t class q.name q.proto top) (finds_super p class method) super_answers (subst (name.FindsNoCode (values p)) (super_is p s g.once targets class method c m is_class low is_key) h)
      left call.Virtual h = by_receiver any_value (λ plain. virtual_left plain x args h)
      left call.Interface h = itself any_value

  -- ---- a call of any name

  module _ (class : ℕ) (c : Class) (is_class : slice_get p.classes class ≡ Some c) (method : ℕ) (m : MethodKey) (is_key : method_at p method ≡ m) (x : ℕ → Parts) (args : List ℕ) (kind : InvokeKind) where
    by_class : (v : Parts) (q : MethodName) → ((top : ℕ) → class_place p q.class ≡ Some top → Under v (kind_value p t class kind q.name q.proto top)) → Under v (named_value p t class kind (Some q))
    by_class v q h = by (class_place p q.class) refl
      where
        by : (y : Option ℕ) → class_place p q.class ≡ y → Under v (elim y as (λ y. Parts) [ Some top ↦ kind_value p t class kind q.name q.proto top | None ↦ any_value ])
        by None e = below_any v
        by (Some top) e = h top e

    by_name_of : (v : Parts) → ((q : MethodName) (top : ℕ) → slice_get p.methods method ≡ Some q → class_place p q.class ≡ Some top → Under v (kind_value p t class kind q.name q.proto top)) → Under v (call_value p t class kind method)
    by_name_of v h = by (slice_get p.methods method) refl
      where
        by : (y : Option MethodName) → slice_get p.methods method ≡ y → Under v (named_value p t class kind y)
        by None e = below_any v
        by (Some q) e = by_class v q (λ top i. h q top e i)

    pub call_given : (f : Found) → name.MayCall (values p) (named p) (outer_of p o) (type_at p c.name) x args kind m f → Under (facts.results f.key) (call_value p t class kind method)
    call_given f may = by_name_of (facts.results f.key) (λ q top e i. given class c is_class method q e top i m is_key x args kind f may)

    pub call_left : name.MayLeave (values p) (named p) (outer_of p o) (type_at p c.name) x args kind m → Under any_value (call_value p t class kind method)
    call_left may = by_name_of any_value (λ q top e i. left class c is_class method q e top i m is_key x args kind may)
