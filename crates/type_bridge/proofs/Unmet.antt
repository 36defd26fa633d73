-- A read that isn't allowed by number isn't by name: where the kinds at registers are at or below the numbers of their names,
-- a register that is refused by number has a demand by name that isn't met.
use Rattle.std.proofs.Common.{◌≡◌, ℕ, zero, suc, ◌+◌, Bool, true, false, true≢false, nat_eq, List, [], ◌∷◌, ◌++◌, map, Option, Some, None, ◌⊎◌, inl, inr, refl, sym, ap, ◌∙◌, subst, arith}
use Rattle.std.specs.Prelude.{◌&&◌, ◌||◌, not, min, drop, slice_get, if◌then◌else◌}
use Rattle.std.specs.List.{list_any}
use Rattle.lemmas.proofs.Bools.{or_left, or_right}
use Rattle.lemmas.proofs.Lists.{any_right}
use Rattle.class_defs.proofs.Positions.{number_test}
use Rattle.class_defs.specs.Finding as finding
use Rattle.hierarchy.specs.Shapes.{IsResolved}
use Rattle.insn_set.specs.declared.ops.InvokeKind.{InvokeKind}
use Rattle.insn_set.specs.declared.ops.InvokeKind.TheVariants as call
use Rattle.insn_set.specs.declared.ops.Item.{Item}
use Rattle.insn_set.specs.declared.ops.Slot.{Slot}
use Rattle.insn_set.specs.declared.ops.Test.{Test}
use Rattle.program_model.specs.declared.program.Class.{Class}
use Rattle.program_model.specs.declared.program.Program.{Program}
use Rattle.dalvik_defs.specs.Find as find
use Rattle.dalvik_defs.specs.Names as text
use Rattle.dalvik_defs.specs.Names.{Text}
use Rattle.dalvik_defs.specs.Naming.{type_at, field_at, method_at, named_class, named}
use Rattle.pass_defs.specs.Demands as asked
use Rattle.pass_defs.specs.Demands.{Demand, Number, Pair, Behind, Initialised, Either, Fits, Receiver, Holder, Constructed, AnArray, ArrayOf, Filled, number_or_pair, of_type}
use Rattle.pass_defs.specs.Kinds as name
use Rattle.pass_defs.specs.Registers as by_name
use Rattle.verify.specs.declared.calls.Search.{Search}
use Rattle.verify.specs.declared.calls.Search.TheVariants as search
use Rattle.verify.specs.declared.kinds.Kind as number
use Rattle.verify.specs.declared.kinds.Kind.TheVariants as kind
use Rattle.verify.specs.declared.setting.Setting.{Setting}
use Rattle.verify.specs.declared.tables.Tables.{Tables}
use Rattle.verify.specs.Demands as demands
use Rattle.verify.specs.Demands.{unless, lower, lower_than}
use Rattle.verify.specs.Fits.{fits, fits_holder, fits_item}
use Rattle.verify.specs.Frames.{kind_at, is_pair}
use Rattle.verify.specs.Kinds as kinds
use Rattle.verify.specs.Names.{field_class, method_class, parameters_of}
use Rattle.verify.specs.Reads as reads
use Rattle.verify.specs.Reads.{is_of_type, is_holder, is_receiver, is_constructed, is_array_of, is_array_filled, refused_from, refused_arguments, refused_received, refused_call, refused_items_from, refused_items, found_at, fits_search}
use Rattle.verify.specs.Shapes as shapes
use Rattle.verify.specs.Supers as supers
use Rattle.verify.specs.Types.{shape_of, is_constructor}
use Rattle.verify.proofs.Fitting.{fits_below, holder_fits_below, fits_item_below}
use Rattle.verify.proofs.Holding.{Each, number_or_pair_below, movable_below, tested_below, item_kind_below, of_type_below, holder_below, constructed_below, array_of_below, filled_below, any_array_below}
use Rattle.verify.proofs.Orders.{number_below, made_below}
use Rattle.type_bridge.specs.Views.{class_kind, kind_named}
use Rattle.type_bridge.proofs.Asked.{equality_same}
use Rattle.type_bridge.proofs.Back.{numbered}
use Rattle.type_bridge.proofs.BackFits.{fits_item_back}
use Rattle.type_bridge.proofs.BackFrames.{at_back}
use Rattle.type_bridge.proofs.BackReads.{met_number, met_made, met_fits, met_wide, met_type, met_slot, met_item, met_tested, met_array, met_filled, met_any_array, met_receiver, met_holder, met_constructed}
use Rattle.type_bridge.proofs.Frames.{at_named}
use Rattle.type_bridge.proofs.Members.{MethodIs, FieldIs, method_class_is, method_class_small, parameters_is, constructor_is, SameFound, found_same}
use Rattle.type_bridge.proofs.Texts.{sorts}
use Rattle.type_bridge.proofs.Told.{Told}

-- ---- lists

any_left : {A : Type 0} (f : A → Bool) (xs ys : List A) → list_any f xs ≡ true → list_any f (xs ++ ys) ≡ true
any_left f [] ys e = absurd (true≢false (sym e))
any_left f (x ∷ xs) ys e = by (f x) (any_left f xs ys) e
  where
    by : (b : Bool) → (list_any f xs ≡ true → list_any f (xs ++ ys) ≡ true) → (b || list_any f xs) ≡ true → (b || list_any f (xs ++ ys)) ≡ true
    by true more e = refl
    by false more e = more e

-- ---- the lower of two registers

pub either_lower : (x y : Option ℕ) (r : ℕ) → lower x y ≡ Some r → (x ≡ Some r) ⊎ (y ≡ Some r)
either_lower None y r e = inr e
either_lower (Some q) None r e = inl e
either_lower (Some q) (Some w) r e = let f : min q w ≡ r = cc in by (less q w) f
  where
    less : (q w : ℕ) → (min q w ≡ q) ⊎ (min q w ≡ w)
    less zero w = inl (omega arith)
    less (suc q) zero = inr (omega arith)
    less (suc q) (suc w) = elim (less q w) [
      | inl e ↦ inl (omega (arith, e))
      | inr e ↦ inr (omega (arith, e))
    ]

    by : (min q w ≡ q) ⊎ (min q w ≡ w) → min q w ≡ r → (Some q ≡ Some r) ⊎ (Some w ≡ Some r)
    by (inl g) f = inl (ap Some (sym g ∙ f))
    by (inr g) f = inr (ap Some (sym g ∙ f))

-- a test that fails at a register
record Fails (test : Bool) (q r : ℕ) : Type 0 where
  pub fails : test ≡ false
  pub same : q ≡ r

fails_of : (test : Bool) (q r : ℕ) → unless test q ≡ Some r → Fails test q r
fails_of true q r e = absurd (cc)
fails_of false q r e = record { fails = refl; same = (let f : q ≡ r = cc in f) }

-- what would make it hold fails too
pub unmet_by : (test other : Bool) (q r : ℕ) → (other ≡ true → test ≡ true) → unless test q ≡ Some r → (nat_eq q r && not other) ≡ true
unmet_by test other q r f e =
    let x = fails_of test q r e in
    ap (λ b. b && not other) (number_test q r x.same) ∙ by other f x.fails
  where
    by : (other : Bool) → (other ≡ true → test ≡ true) → test ≡ false → not other ≡ true
    by false f g = refl
    by true f g = absurd (true≢false (sym (f refl) ∙ g))

module _ (s : Setting) (d : Told s.program.now s.tables.now) (h : IsResolved s.program.now s.hierarchy.now) (c : Class) (own : slice_get s.program.now.classes s.class ≡ Some c) (ks : List number.Kind) where
  abbrev p : Program
  p = s.program.now

  abbrev t : Tables
  t = s.tables.now

  abbrev names : List name.Kind
  names = map (kind_named p) ks

  abbrev numbers : List number.Kind
  numbers = map (numbered p) names

  abbrev Meets : ℕ → Demand → Type 0
  Meets r x = asked.meets (named p) (named_class p c) names r x ≡ true

  abbrev meets : ℕ → Demand → Bool
  meets r x = asked.meets (named p) (named_class p c) names r x

  -- a demand on this register isn't met
  abbrev pub unmet : ℕ → ℕ × Demand → Bool
  unmet r x = nat_eq x.0 r && not (meets x.0 x.1)

  abbrev pub Unmet : List (ℕ × Demand) → ℕ → Type 0
  Unmet ds r = list_any (unmet r) ds ≡ true

  first : (x : ℕ × Demand) (xs : List (ℕ × Demand)) (r : ℕ) → unmet r x ≡ true → Unmet (x ∷ xs) r
  first x xs r e = or_left (unmet r x) (list_any (unmet r) xs) e

  pub rest : (x : ℕ × Demand) (xs : List (ℕ × Demand)) (r : ℕ) → Unmet xs r → Unmet (x ∷ xs) r
  rest x xs r e = or_right (unmet r x) (list_any (unmet r) xs) e

  pub one : (test : Bool) (q r : ℕ) (x : Demand) (xs : List (ℕ × Demand)) → (Meets q x → test ≡ true) → unless test q ≡ Some r → Unmet ((q, x) ∷ xs) r
  one test q r x xs f e = first (q, x) xs r (unmet_by test (meets q x) q r f e)

  pub two : (a b : Bool) (v w r : ℕ) (x y : Demand) → (Meets v x → a ≡ true) → (Meets w y → b ≡ true) → lower (unless a v) (unless b w) ≡ Some r → Unmet ((v, x) ∷ (w, y) ∷ []) r
  two a b v w r x y f g e = by (either_lower (unless a v) (unless b w) r e)
    where
      by : (unless a v ≡ Some r) ⊎ (unless b w ≡ Some r) → Unmet ((v, x) ∷ (w, y) ∷ []) r
      by (inl e) = one a v r x ((w, y) ∷ []) f e
      by (inr e) = rest (v, x) ((w, y) ∷ []) r (one b w r y [] g e)

  module _ (up : Each t ks numbers) where
    pub down_number : (r : ℕ) → Meets r Number → kinds.is_number (kind_at ks r) ≡ true
    down_number r e = number_below t (kind_at ks r) (kind_at numbers r) (up r) (met_number s d h c own names r e)

    pub down_made : (r : ℕ) → Meets r Initialised → kinds.is_initialised (kind_at ks r) ≡ true
    down_made r e = made_below t (kind_at ks r) (kind_at numbers r) (up r) (met_made s d h c own names r e)

    pub down_fits : (r type : ℕ) (u : Text) → type_at p type ≡ u → Meets r (Fits u) → fits t (kind_at ks r) type ≡ true
    down_fits r type u f e = fits_below t d.meets (kind_at ks r) (kind_at numbers r) type (up r) (met_fits s d h c own names r type u f e)

    pub down_wide : (b : Bool) (r : ℕ) → Meets r (number_or_pair b) → demands.is_number_or_pair b ks r ≡ true
    down_wide b r e = number_or_pair_below t b ks numbers r up (met_wide s d h c own names b r e)

    pub down_type : (r type : ℕ) (u : Text) → type_at p type ≡ u → Meets r (of_type u) → is_of_type s ks r type ≡ true
    down_type r type u f e = of_type_below s d.meets ks numbers r type up (met_type s d h c own names r type u f e)

    pub down_slot : (x : Slot) (r : ℕ) → Meets r (asked.slot_demand x) → demands.is_movable x ks r ≡ true
    down_slot x r e = movable_below t x ks numbers r up (met_slot s d h c own names x r e)

    pub down_item : (x : Item) (r : ℕ) → Meets r (asked.put_item x) → demands.is_item x ks r ≡ true
    down_item x r e = item_kind_below t x ks numbers r up (met_item s d h c own names x r e)

    pub down_tested : (x : Test) (r : ℕ) → Meets r (asked.tested (asked.is_equality x)) → demands.is_tested x (kind_at ks r) ≡ true
    down_tested x r e = tested_below t x (kind_at ks r) (kind_at numbers r) (up r) (met_tested s d h c own names x r e)

    pub down_array : (i : Item) (r : ℕ) → Meets r (ArrayOf i) → is_array_of s (kind_at ks r) i ≡ true
    down_array i r e = array_of_below s d.meets (kind_at ks r) (kind_at numbers r) i (up r) (met_array s d h c own names i r e)

    pub down_filled : (w r : ℕ) → Meets r (Filled w) → is_array_filled s (kind_at ks r) w ≡ true
    down_filled w r e = filled_below s d.meets (kind_at ks r) (kind_at numbers r) w (up r) (met_filled s d h c own names w r e)

    pub down_any_array : (r : ℕ) → Meets r AnArray → demands.is_any_array (kind_at ks r) ≡ true
    down_any_array r e = any_array_below t d.meets (kind_at ks r) (kind_at numbers r) (up r) (met_any_array s d h c own names r e)

    pub down_receiver : (r f : ℕ) → FieldIs p t d f → Meets r (Receiver (field_at p f).class) → fits_holder t (kind_at ks r) (field_class p f) ≡ true
    down_receiver r f e g = holder_fits_below t d.meets (kind_at ks r) (kind_at numbers r) (field_class p f) (up r) (met_receiver s d h c own names r f e g)

    pub down_holder : (f r : ℕ) → FieldIs p t d f → Meets r (Holder (field_at p f)) → is_holder s (kind_at ks r) f ≡ true
    down_holder f r e g = holder_below s d.meets (kind_at ks r) (kind_at numbers r) f (up r) (met_holder s d h c own names f r e g)

    -- ---- tests of two operands

    -- a number or an initialised reference
    down_either : (r : ℕ) → Meets r Either → (kinds.is_number (kind_at ks r) || kinds.is_initialised (kind_at ks r)) ≡ true
    down_either r e = by (name.is_number (by_name.kind_at names r)) refl e
      where
        by : (b : Bool) → name.is_number (by_name.kind_at names r) ≡ b → (b || name.is_initialised (by_name.kind_at names r)) ≡ true → (kinds.is_number (kind_at ks r) || kinds.is_initialised (kind_at ks r)) ≡ true
        by true f g = or_left (kinds.is_number (kind_at ks r)) (kinds.is_initialised (kind_at ks r)) (down_number r f)
        by false f g = or_right (kinds.is_number (kind_at ks r)) (kinds.is_initialised (kind_at ks r)) (down_made r g)

    down_like : (k : number.Kind) (r : ℕ) → Meets r (asked.like (kind_named p k)) → demands.is_like k (kind_at ks r) ≡ true
    down_like kind.Zero r e = down_either r e
    down_like kind.Word r e = down_number r e
    down_like (kind.Program k) r e = by (slice_get p.classes k) e
      where
        by : (o : Option Class) → Meets r (asked.like (class_kind p o)) → kinds.is_initialised (kind_at ks r) ≡ true
        by None e = down_made r e
        by (Some k) e = down_made r e
    down_like (kind.Array zero i) r e = down_made r e
    down_like (kind.Array (suc n) i) r e = down_made r e
    down_like k r e = down_made r e

    pub down_tested_with : (x : Test) (q r : ℕ) → Meets r (asked.second_tested (asked.is_equality x) (by_name.kind_at names q)) → demands.is_tested_with x (kind_at ks q) (kind_at ks r) ≡ true
    down_tested_with x q r e = by (demands.is_equality x)
        (subst (λ k. Meets r (asked.second_tested (demands.is_equality x) k)) (at_named p ks q)
        (subst (λ b. Meets r (asked.second_tested b (by_name.kind_at names q))) (equality_same x) e))
      where
        by : (b : Bool) → Meets r (asked.second_tested b (kind_named p (kind_at ks q))) → (if b then demands.is_like (kind_at ks q) (kind_at ks r) else kinds.is_number (kind_at ks r)) ≡ true
        by true e = down_like (kind_at ks q) r e
        by false e = down_number r e

    -- ---- new arrays

    pub items_unmet : (so : Option ℕ) (type : ℕ) (rs : List ℕ) (r : ℕ) → text.is_array (type_at p type) ≡ true → refused_items_from s ks so type rs ≡ Some r → (so ≡ Some r) ⊎ Unmet (map (λ r. (r, Fits (text.item_of (type_at p type)))) rs) r
    items_unmet so type [] r w e = inl e
    items_unmet so type (q ∷ rs) r w e = by (items_unmet (lower so (unless (fits_item t (kind_at ks q) type) q)) type rs r w e)
      where
        here : ℕ × Demand
        here = (q, Fits (text.item_of (type_at p type)))

        others : List (ℕ × Demand)
        others = map (λ r. (r, Fits (text.item_of (type_at p type)))) rs

        fit : Meets q (Fits (text.item_of (type_at p type))) → fits_item t (kind_at ks q) type ≡ true
        fit f = fits_item_below t d.meets (kind_at ks q) (kind_at numbers q) type (up q)
            (ap (λ k. fits_item t k type) (at_back p names q) ∙ fits_item_back p t d (by_name.kind_at names q) type w f)

        split : (so ≡ Some r) ⊎ (unless (fits_item t (kind_at ks q) type) q ≡ Some r) → (so ≡ Some r) ⊎ Unmet (here ∷ others) r
        split (inl f) = inl f
        split (inr f) = inr (one (fits_item t (kind_at ks q) type) q r (Fits (text.item_of (type_at p type))) others fit f)

        by : (lower so (unless (fits_item t (kind_at ks q) type) q) ≡ Some r) ⊎ Unmet others r → (so ≡ Some r) ⊎ Unmet (here ∷ others) r
        by (inl f) = split (either_lower so (unless (fits_item t (kind_at ks q) type) q) r f)
        by (inr f) = inr (rest here others r f)

    -- ---- arguments

    wide_unmet : (q : ℕ) (rs : List ℕ) (r : ℕ) → reads.refused_wide ks (q ∷ rs) ≡ Some r → Unmet (asked.passed_wide q rs) r
    wide_unmet q [] r e = one (is_pair ks q) q r Pair [] (down_wide true q) e
    wide_unmet q (w ∷ rs) r e = two (is_pair ks q) (nat_eq w (q + 1)) q w r Pair (Behind q) (down_wide true q) (λ f. f) e

    none_left : (t : ℕ) → reads.behind s t [] ≡ []
    none_left x = by (shapes.is_wide (shape_of t x))
      where
        by : (b : Bool) → ◌≡◌ {A = List ℕ} (if b then drop 2 [] else drop 1 []) []
        by true = refl
        by false = refl

    none_refused : (x : ℕ) → reads.refused_argument s ks x [] ≡ None
    none_refused x = by (shapes.is_wide (shape_of t x))
      where
        by : (b : Bool) → (if b then reads.refused_wide ks [] else reads.refused_word s ks x []) ≡ None
        by true = refl
        by false = refl

    lower_none : (so : Option ℕ) → lower so None ≡ so
    lower_none None = refl
    lower_none (Some r) = refl

    no_more : (so : Option ℕ) (ts : List ℕ) → refused_from s ks so ts [] ≡ so
    no_more so [] = refl
    no_more so (x ∷ ts) =
        ap (λ l. refused_from s ks (lower so (reads.refused_argument s ks x [])) ts l) (none_left x)
        ∙ ap (λ o. refused_from s ks (lower so o) ts []) (none_refused x)
        ∙ ap (λ o. refused_from s ks o ts []) (lower_none so)
        ∙ no_more so ts

    abbrev Passed : List ℕ → List ℕ → ℕ → Type 0
    Passed ts rs r = Unmet (asked.passed (map (type_at p) ts) rs) r

    abbrev demanded : Bool → ℕ → ℕ → List ℕ → List ℕ → List (ℕ × Demand)
    demanded b x q ts rs = elim b as (λ b. List (ℕ × Demand)) [ true ↦ asked.passed_wide q rs ++ asked.passed (map (type_at p) ts) (drop 1 rs) | false ↦ (q, Fits (type_at p x)) ∷ asked.passed (map (type_at p) ts) rs ]

    passed_unmet : (so : Option ℕ) (ts rs : List ℕ) (r : ℕ) → refused_from s ks so ts rs ≡ Some r → (so ≡ Some r) ⊎ Passed ts rs r
    passed_unmet so [] rs r e = inl e
    passed_unmet so (x ∷ ts) [] r e = inl (sym (no_more so (x ∷ ts)) ∙ e)
    passed_unmet so (x ∷ ts) (q ∷ rs) r e =
        subst (λ b. (so ≡ Some r) ⊎ Unmet (demanded b x q ts rs) r) (sym (sorts p t d x).wide)
        (by (λ other qs f. passed_unmet other ts qs r f) (shapes.is_wide (shape_of t x)) refl e)
      where
        wide : (lower so (reads.refused_wide ks (q ∷ rs)) ≡ Some r) ⊎ Passed ts (drop 1 rs) r → (so ≡ Some r) ⊎ Unmet (asked.passed_wide q rs ++ asked.passed (map (type_at p) ts) (drop 1 rs)) r
        wide (inl f) = elim (either_lower so (reads.refused_wide ks (q ∷ rs)) r f) [
          | inl g ↦ inl g
          | inr g ↦ inr (any_left (unmet r) (asked.passed_wide q rs) (asked.passed (map (type_at p) ts) (drop 1 rs)) (wide_unmet q rs r g))
        ]
        wide (inr f) = inr (any_right (unmet r) (asked.passed_wide q rs) (asked.passed (map (type_at p) ts) (drop 1 rs)) f)

        word : (lower so (unless (fits t (kind_at ks q) x) q) ≡ Some r) ⊎ Passed ts rs r → (so ≡ Some r) ⊎ Unmet ((q, Fits (type_at p x)) ∷ asked.passed (map (type_at p) ts) rs) r
        word (inl f) = elim (either_lower so (unless (fits t (kind_at ks q) x) q) r f) [
          | inl g ↦ inl g
          | inr g ↦ inr (one (fits t (kind_at ks q) x) q r (Fits (type_at p x)) (asked.passed (map (type_at p) ts) rs) (down_fits q x (type_at p x) refl) g)
        ]
        word (inr f) = inr (rest (q, Fits (type_at p x)) (asked.passed (map (type_at p) ts) rs) r f)

        by : ((other : Option ℕ) (qs : List ℕ) → refused_from s ks other ts qs ≡ Some r → (other ≡ Some r) ⊎ Passed ts qs r) → (b : Bool) → shapes.is_wide (shape_of t x) ≡ b → refused_from s ks (lower so (if b then reads.refused_wide ks (q ∷ rs) else reads.refused_word s ks x (q ∷ rs))) ts (if b then drop 2 (q ∷ rs) else drop 1 (q ∷ rs)) ≡ Some r
            → (so ≡ Some r) ⊎ Unmet (demanded b x q ts rs) r
        by more true w e = wide (more (lower so (reads.refused_wide ks (q ∷ rs))) (drop 1 rs) e)
        by more false w e = word (more (lower so (unless (fits t (kind_at ks q) x) q)) rs e)

    -- ---- calls

    module _ (kind_is : s.kind ≡ c.name) (super_is : s.superclass ≡ c.superclass) (n : ℕ) (m : ℕ) (e : MethodIs p t d m) where
      arguments_unmet : (rs : List ℕ) (r : ℕ) → refused_arguments s ks (parameters_of p m) rs ≡ Some r → Unmet (asked.passed (method_at p m).signature.parameters rs) r
      arguments_unmet rs r f = subst (λ ts. Unmet (asked.passed ts rs) r) (parameters_is p t d m e) (by (passed_unmet None (parameters_of p m) rs r f))
        where
          by : (None ≡ Some r) ⊎ Passed (parameters_of p m) rs r → Passed (parameters_of p m) rs r
          by (inl g) = absurd (cc)
          by (inr g) = g

      abbrev received : Demand
      received = if asked.is_constructor_name (method_at p m).name then Constructed (method_at p m).class else Fits (method_at p m).class

      plain_down : (r : ℕ) → Meets r received → (if is_constructor t m then is_constructed s (kind_at ks r) (method_class p m) else fits t (kind_at ks r) (method_class p m)) ≡ true
      plain_down r f = by (is_constructor t m) (subst (λ b. Meets r (if b then Constructed (method_at p m).class else Fits (method_at p m).class)) (sym (constructor_is p t d m e)) f)
        where
          by : (b : Bool) → Meets r (if b then Constructed (method_at p m).class else Fits (method_at p m).class)
              → (if b then is_constructed s (kind_at ks r) (method_class p m) else fits t (kind_at ks r) (method_class p m)) ≡ true
          by true f = constructed_below s (kind_at ks r) (kind_at numbers r) (method_class p m) (up r) (met_constructed s d h c own names kind_is super_is r (method_class p m) (method_at p m).class (method_class_is p t d m e) (method_class_small p t d m e) f)
          by false f = down_fits r (method_class p m) (method_at p m).class (method_class_is p t d m e) f

      abbrev found_demands : ℕ → find.Search → List (ℕ × Demand)
      found_demands q y = map (λ d. (q, d)) (map Fits (asked.found_class y))

      -- the class of what a super call finds
      found_unmet : (q r : ℕ) (x : Search) (y : find.Search) → SameFound s d h x y → unless (fits_search s (kind_at ks q) x) q ≡ Some r → Unmet (found_demands q y) r
      found_unmet q r search.Nothing y same f = absurd (cc)
      found_unmet q r (search.Finds class static) y same f =
          subst (λ us. Unmet (map (λ d. (q, d)) (map Fits us)) r) (sym same.classes)
          (one (fits t (kind_at ks q) class) q r (Fits (type_at p class)) [] (down_fits q class (type_at p class) refl) f)

      -- of two tests at a register one fails
      either_unless : (a b : Bool) (q r : ℕ) → unless (a && b) q ≡ Some r → (unless a q ≡ Some r) ⊎ (unless b q ≡ Some r)
      either_unless true b q r f = inr f
      either_unless false b q r f = inl f

      super_unmet : found_at s n ≡ supers.said p (finding.finds_super p s.class m) → (q r : ℕ) → unless (is_receiver s n ks call.Super m q) q ≡ Some r → Unmet (map (λ d. (q, d)) (asked.receiver_demands (named p) (named_class p c) call.Super (method_at p m))) r
      super_unmet found q r f = by (either_unless (fits t (kind_at ks q) (method_class p m)) (fits_search s (kind_at ks q) (found_at s n)) q r f)
        where
          others : List (ℕ × Demand)
          others = found_demands q (find.finds_super (named p) (type_at p c.name) (method_at p m))

          by : (unless (fits t (kind_at ks q) (method_class p m)) q ≡ Some r) ⊎ (unless (fits_search s (kind_at ks q) (found_at s n)) q ≡ Some r) → Unmet ((q, Fits (method_at p m).class) ∷ others) r
          by (inl g) = one (fits t (kind_at ks q) (method_class p m)) q r (Fits (method_at p m).class) others (down_fits q (method_class p m) (method_at p m).class (method_class_is p t d m e)) g
          by (inr g) = rest (q, Fits (method_at p m).class) others r
              (found_unmet q r (supers.said p (finding.finds_super p s.class m)) (find.finds_super (named p) (type_at p c.name) (method_at p m)) (found_same s d h c own m e) (subst (λ x. unless (fits_search s (kind_at ks q) x) q ≡ Some r) found g))

      received_unmet : (k : InvokeKind) (q : ℕ) (rs : List ℕ) (r : ℕ) (ds : List (ℕ × Demand)) → (unless (is_receiver s n ks k m q) q ≡ Some r → Unmet ds r) → refused_received s n ks k m (q ∷ rs) ≡ Some r → Unmet (ds ++ asked.passed (method_at p m).signature.parameters rs) r
      received_unmet k q rs r ds take f = by (either_lower (unless (is_receiver s n ks k m q) q) (refused_arguments s ks (parameters_of p m) rs) r f)
        where
          by : (unless (is_receiver s n ks k m q) q ≡ Some r) ⊎ (refused_arguments s ks (parameters_of p m) rs ≡ Some r) → Unmet (ds ++ asked.passed (method_at p m).signature.parameters rs) r
          by (inl g) = any_left (unmet r) ds (asked.passed (method_at p m).signature.parameters rs) (take g)
          by (inr g) = any_right (unmet r) ds (asked.passed (method_at p m).signature.parameters rs) (arguments_unmet rs r g)

      pub call_unmet : (k : InvokeKind) (rs : List ℕ) (r : ℕ) → found_at s n ≡ supers.called_by_kind p s.class k m → refused_call s n ks k m rs ≡ Some r → Unmet (asked.call_demands (named p) (named_class p c) k (method_at p m) rs) r
      call_unmet call.Static rs r found f = arguments_unmet rs r f
      call_unmet call.Super [] r found f = absurd (cc)
      call_unmet call.Virtual [] r found f = absurd (cc)
      call_unmet call.Direct [] r found f = absurd (cc)
      call_unmet call.Interface [] r found f = absurd (cc)
      call_unmet call.Super (q ∷ rs) r found f = received_unmet call.Super q rs r (map (λ d. (q, d)) (asked.receiver_demands (named p) (named_class p c) call.Super (method_at p m))) (super_unmet found q r) f
      call_unmet call.Virtual (q ∷ rs) r found f = received_unmet call.Virtual q rs r ((q, received) ∷ []) (one _ q r received [] (plain_down q)) f
      call_unmet call.Direct (q ∷ rs) r found f = received_unmet call.Direct q rs r ((q, received) ∷ []) (one _ q r received [] (plain_down q)) f
      call_unmet call.Interface (q ∷ rs) r found f = received_unmet call.Interface q rs r ((q, received) ∷ []) (one _ q r received [] (plain_down q)) f
