-- Walks through a typed body without regions: what is undefined when it begins is not read before it is written, and each form that
-- is reached may stand in a copy.
use Rattle.std.proofs.Common.{◌≡◌, inl, inr, ℕ, zero, suc, ◌+◌, ◌-◌, ◌<◌, ◌≤◌, Bool, true, false, true≢false, List, [], ◌∷◌, ◌++◌, length, Option, Some, None, refl, sym, ap, ◌∙◌, subst, arith}
use Rattle.std.specs.Prelude.{◌&&◌, not, map, replicate, find, slice_get, slice_index_or, Contains}
use Rattle.std.specs.List.{list_all}
use Rattle.std.proofs.lemmas.Bool.{or_cases, eqb-true}
use Rattle.lemmas.proofs.Bools.{and_left, and_right, clash, not_false, neither_of}
use Rattle.lemmas.proofs.Lists.{all_in, got_short, get_there}
use Rattle.lemmas.proofs.Options.{none_some, some_same}
use Rattle.insn_set.specs.Widths.{is_wide_slot}
use Rattle.insn_set.specs.declared.ops.Slot.{Slot}
use Rattle.insn_set.specs.declared.ops.Slot.TheVariants as slot
use Rattle.dalvik_defs.specs.Names.{Text, is_word, is_wide, is_reference, is_void}
use Rattle.dalvik_defs.specs.declared.forms.Form.{Form}
use Rattle.dalvik_defs.specs.declared.forms.Form.TheVariants as form
use Rattle.dalvik_defs.specs.declared.program.NamedBody.{NamedBody}
use Rattle.dalvik_defs.specs.declared.program.NamedClass.{NamedClass}
use Rattle.dalvik_defs.specs.declared.program.NamedMethod.{NamedMethod}
use Rattle.dalvik_defs.specs.declared.program.NamedProgram.{NamedProgram}
use Rattle.dalvik_defs.specs.declared.program.NamedRegion.{NamedRegion}
use Rattle.pass_defs.specs.Bare.{reads, writes, may_throw}
use Rattle.pass_defs.specs.Inlined.{Taken}
use Rattle.pass_defs.specs.Kinds.{Kind, Undefined, is_below}
use Rattle.pass_defs.specs.Registers.{Kinds, kind_at, all_below, kinds_below, state_below}
use Rattle.pass_defs.specs.Typed.{argument_kinds, begun, after, edges, catches, wrong_return, ends_early, is_wrong, Table, state_at, each, at_state, arrives, IsTyping}
use Rattle.pass_defs.specs.Walks.{form_at, is_covered, region_at, handlers_of, handlers_at, onward, caught, successors, Walk, Stays, Goes, IsReached, IsReadAt, Here, Onward, Caught, IsRead}
use Rattle.run_laws.proofs.Here.{into_left, into_map}
use Rattle.form_laws.proofs.Asked.{item_width}
use Rattle.form_laws.proofs.Typings.{each_at, tested, allowed_at, right_at}
use Rattle.inline_law.specs.Accepted.{Suits}
use Rattle.inline_law.specs.Takes.{Takes, CatchesNone}
use Rattle.inline_law.proofs.Written.{Lacks, after_lacks}
use Rattle.inline_law.proofs.Unread.{unread}

-- one number is below another, or not
data Below (n r : ℕ) : Type 0 where
  Less : r < n → Below n r
  More : n ≤ r → Below n r

below : (n r : ℕ) → Below n r
below zero r = More (omega arith)
below (suc n) zero = Less (omega arith)
below (suc n) (suc r) = on (below n r)
  where
    on : Below n r → Below (suc n) (suc r)
    on (Less l) = Less (omega (arith, l))
    on (More l) = More (omega (arith, l))

nothing_in : {A : Type 0} (x : A) → Contains [] x → ⊥
nothing_in x h = let l : h.0 < 0 = h.1 in omega (arith, l)

-- ---- the order

module _ (p : NamedProgram) where
  top_alone : (k : Kind) → is_below p Undefined k ≡ true → k ≡ Undefined
  top_alone Undefined e = refl
  top_alone k e = absurd (true≢false (sym e))

  above_lacks : (ks ls : List Kind) (r : ℕ) → all_below p ks ls ≡ true → Lacks ks r → Lacks ls r
  above_lacks [] [] r e h = refl
  above_lacks [] (l ∷ ls) r e h = absurd (true≢false (sym e))
  above_lacks (k ∷ ks) [] r e h = refl
  above_lacks (k ∷ ks) (l ∷ ls) zero e h = top_alone l (subst (λ z. is_below p z l ≡ true) h (and_left (is_below p k l) (all_below p ks ls) e))
  above_lacks (k ∷ ks) (l ∷ ls) (suc r) e h = above_lacks ks ls r (and_right (is_below p k l) (all_below p ks ls) e) h

  registers_below : (a b : Kinds) → kinds_below p a b ≡ true → all_below p a.registers b.registers ≡ true
  registers_below a b e = and_left (all_below p a.registers b.registers) (is_below p a.result b.result)
      (and_left (all_below p a.registers b.registers && is_below p a.result b.result) (is_below p a.caught b.caught)
      (and_left (all_below p a.registers b.registers && is_below p a.result b.result && is_below p a.caught b.caught) (is_below p a.receiver b.receiver) e))

-- what begins with undefined kinds
begins_lacking : (n : ℕ) (ks : List Kind) (r : ℕ) → r < n → Lacks (replicate n Undefined ++ ks) r
begins_lacking zero ks r l = absurd (omega (arith, l))
begins_lacking (suc n) ks zero l = refl
begins_lacking (suc n) ks (suc r) l = begins_lacking n ks r (omega (arith, l))

module _ (p : NamedProgram) (c : NamedClass) (m : NamedMethod) (b : NamedBody) (t : Table) (typing : IsTyping p c m b t) where
  -- a state at a position, and one in which a register is undefined
  record Stands (n : ℕ) : Type 0 where
    kinds : Kinds
    is : state_at t n ≡ Some kinds

  record StandsLacking (r n : ℕ) : Type 0 where
    kinds : Kinds
    is : state_at t n ≡ Some kinds
    lacks : Lacks kinds.registers r

  comes : (x : Kinds) (n : ℕ) → state_below p (Some x) (state_at t n) ≡ true → Stands n
  comes x n e = by (state_at t n) refl e
    where
      by : (o : Option Kinds) → state_at t n ≡ o → state_below p (Some x) o ≡ true → Stands n
      by None i h = absurd (true≢false (sym h))
      by (Some y) i h = record { kinds = y; is = i }

  comes_lacking : (r : ℕ) (x : Kinds) (n : ℕ) → Lacks x.registers r → state_below p (Some x) (state_at t n) ≡ true → StandsLacking r n
  comes_lacking r x n l e = by (state_at t n) refl e
    where
      by : (o : Option Kinds) → state_at t n ≡ o → state_below p (Some x) o ≡ true → StandsLacking r n
      by None i h = absurd (true≢false (sym h))
      by (Some y) i h = record { kinds = y; is = i; lacks = above_lacks p x.registers y.registers r (registers_below p x y h) l }

  -- where a form goes on, what it leaves arrives
  arrived : (n k : ℕ) (f : Form) (a : Kinds) → form_at b n ≡ Some f → state_at t n ≡ Some a → Contains (onward f n) k → state_below p (Some (after p c n f a)) (state_at t k) ≡ true
  arrived n k f a x y i =
      let all : list_all (arrives p t) (edges p c b n f a) ≡ true = tested p c m b t typing n f a x y (λ f a. list_all (arrives p t) (edges p c b n f a))
      (each_at (length b.forms) (λ n. at_state b t (λ f a. list_all (arrives p t) (edges p c b n f a)) n) n (got_short b.forms n f x) typing.edges) in
      all_in (arrives p t) (edges p c b n f a) (k, after p c n f a)
      (into_left (map (λ q. (q, after p c n f a)) (onward f n)) (map (λ h. (h.0, record a { caught = h.1 })) (catches p b n f)) (k, after p c n f a) (into_map (λ q. (q, after p c n f a)) (onward f n) k i)) all

  module _ (unguarded : b.regions ≡ []) where
    none_caught : (f : Form) (n k : ℕ) → Contains (caught b f n) k → ⊥
    none_caught f n k i = by (may_throw f) i
      where
        none : handlers_at b n ≡ []
        none = ap (λ (rs : List NamedRegion). handlers_of (find (is_covered n) rs)) unguarded

        by : (v : Bool) → Contains (elim v as (λ v. List ℕ) [ true ↦ handlers_at b n | false ↦ [] ]) k → ⊥
        by true j = nothing_in k (subst (λ (l : List ℕ). Contains l k) none j)
        by false j = nothing_in k j

    -- ---- registers

    never_read : (r n k : ℕ) → StandsLacking r n → IsReadAt b r n k → ⊥
    never_read r n _ s (Here _ f x e) = unread p c m s.kinds r s.lacks f (allowed_at p c m b t typing n f s.kinds x s.is) (right_at p c m b t typing n f s.kinds x s.is) e
    never_read r n k s (Onward _ q _ f x w i more) =
        never_read r q k (comes_lacking r (after p c n f s.kinds) q
        (after_lacks p c m n s.kinds r s.lacks f (allowed_at p c m b t typing n f s.kinds x s.is) (right_at p c m b t typing n f s.kinds x s.is) w) (arrived n q f s.kinds x s.is i)) more
    never_read r n k s (Caught _ q _ f x i more) = none_caught f n q i

    pub arguments_alone : (r : ℕ) → IsRead b r 0 → b.registers - b.ins ≤ r
    arguments_alone r h = by (below (b.registers - b.ins) r)
      where
        by : Below (b.registers - b.ins) r → b.registers - b.ins ≤ r
        by (Less l) = absurd (never_read r 0 h.0 (comes_lacking r (begun p c m b) 0 (begins_lacking (b.registers - b.ins) (argument_kinds p c m) r l) typing.entry) h.1)
        by (More l) = l

    -- ---- forms

    in_table : (t : Table) (n : ℕ) (a : Kinds) → state_at t n ≡ Some a → n < length t
    in_table [] n a e = none_some a e
    in_table (o ∷ t) zero a e = omega arith
    in_table (o ∷ t) (suc n) a e = let l = in_table t n a e in omega (arith, l)

    form_there : (n : ℕ) → Stands n → (f : Form) × (form_at b n ≡ Some f)
    form_there n s = let l = in_table t n s.kinds s.is in let e = typing.long in get_there b.forms n (omega (arith, l, e))

    steps : (n k : ℕ) → Stands n → Contains (successors b n) k → Stands k
    steps n k s i = let x = form_there n s in by x.0 x.1
      where
        split : (xs ys : List ℕ) → Contains (xs ++ ys) k → (Contains ys k → ⊥) → Contains xs k
        split [] ys h away = absurd (away h)
        split (x ∷ xs) ys (zero, l, e) away = (zero, omega arith, e)
        split (x ∷ xs) ys (suc j, l, e) away = let h = split xs ys (j, omega (arith, l), e) away in (suc h.0, omega (arith, h.1), h.2)

        by : (f : Form) → form_at b n ≡ Some f → Stands k
        by f x = comes (after p c n f s.kinds) k (arrived n k f s.kinds x s.is
            (split (onward f n) (caught b f n) (subst (λ (o : Option Form). Contains (elim o as (λ o. List ℕ) [ Some f ↦ onward f n ++ caught b f n | None ↦ [] ]) k) x i) (none_caught f n k)))

    walks : (n k : ℕ) → Stands n → Walk (successors b) n k → Stands k
    walks n _ s (Stays _) = s
    walks n k s (Goes _ q _ i more) = walks q k (steps n q s i) more

    reached_state : (n : ℕ) → IsReached b n → Stands n
    reached_state n w = walks 0 n (comes (begun p c m b) 0 typing.entry) w

    -- ---- results

    reference_narrow : (t : Text) → is_reference t ≡ true → is_wide t ≡ false
    reference_narrow [] e = refl
    reference_narrow (u ∷ us) e = elim (or_cases _ _ e) [
      | inl i ↦ subst (λ x. is_wide (x ∷ us) ≡ false) (sym (eqb-true u 76 i)) refl
      | inr i ↦ subst (λ x. is_wide (x ∷ us) ≡ false) (sym (eqb-true u 91 i)) refl
    ]

    wide_no_word : (t : Text) → is_wide t ≡ true → is_word t ≡ false
    wide_no_word [] e = refl
    wide_no_word (u ∷ us) e = elim (or_cases _ _ e) [
      | inl i ↦ subst (λ x. is_word (x ∷ us) ≡ false) (sym (eqb-true u 74 i)) refl
      | inr i ↦ subst (λ x. is_word (x ∷ us) ≡ false) (sym (eqb-true u 68 i)) refl
    ]

    return_width : (s : Slot) (t : Text) → wrong_return s t ≡ false → is_wide t ≡ is_wide_slot s
    return_width slot.Wide t e = not_false (is_wide t) e
    return_width slot.Object t e = reference_narrow t (not_false (is_reference t) e)
    return_width slot.Word t e = by (is_wide t) refl
      where
        by : (w : Bool) → is_wide t ≡ w → is_wide t ≡ false
        by true i = clash (is_word t) (not_false (is_word t) e) (wide_no_word t i)
        by false i = i

    fits_copy : (taken : Taken) → Takes m taken → (f : Form) (a : Kinds) → is_wrong p c m a f ≡ false → ((to : ℕ) → f ≡ form.MoveException to → ⊥) → Suits taken f
    fits_copy taken h (form.MoveException to) a w away = away to refl
    fits_copy None h form.ReturnVoid a w away = tt
    fits_copy None h (form.Return s from) a w away = tt
    fits_copy None h f a w away = tt
    fits_copy (Some s) h form.ReturnVoid a w away = clash (is_void m.signature.result) (not_false (is_void m.signature.result) (neither_of (not (is_void m.signature.result)) (ends_early p c m a) w).0) (h.gives s refl)
    fits_copy (Some s) h (form.Return s' from) a w away = sym (h.wide s refl) ∙ return_width s' m.signature.result (neither_of (wrong_return s' m.signature.result) (ends_early p c m a) w).0
    fits_copy (Some s) h f a w away = tt

    pub suits_all : CatchesNone b → (taken : Taken) → Takes m taken → (j : ℕ) → IsReached b j → (f : Form) × ((form_at b j ≡ Some f) × Suits taken f)
    suits_all none taken h j w =
        let s = reached_state j w in
        let x = form_there j s in
        (x.0, (x.1, fits_copy taken h x.0 s.kinds (right_at p c m b t typing j x.0 s.kinds x.1 s.is) (λ to e. none j to (x.1 ∙ ap Some e))))
