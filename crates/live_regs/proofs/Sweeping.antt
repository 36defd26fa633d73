-- What sweeps leave in the words is live, and all of it once no word changes.
use Rattle.std.proofs.Common.{◌≡◌, ◌↔◌, inl, inr, ℕ, zero, suc, ◌+◌, ◌-◌, ◌<◌, ◌≤◌, Bool, true, false, not, ◌&&◌, ◌||◌, List, [], ◌∷◌, length, replicate, Option, Some, slice_get, slice_index, slice_index_or, get_or, nat_eq, Contains, refl, sym, ap, ◌∙◌, subst, arith, get_or-set_other, get_or-set_same, length-set}
use Rattle.std.specs.List.{list_any}
use Rattle.std.specs.Prelude.{slice_set}
use Rattle.std.proofs.lemmas.Bool.{cases_eq, cases_lt, eqb-true, false≢true, or_cases, or_left, or_right, or_parts, and_parts, and_from, not-true, not_from_false}
use Rattle.std.proofs.lemmas.List.{length-replicate}
use Rattle.std.proofs.lemmas.Nat.Bits.{bit_at-zero}
use Rattle.insn_set.specs.declared.form.Insn.{Insn}
use Rattle.insn_set.specs.Registers.{reads_of, writes_of}
use Rattle.insn_set.specs.Flow.{throws}
use Rattle.program_model.specs.declared.body.Body.{Body}
use Rattle.program_model.specs.declared.body.Region.{Region}
use Rattle.flow_cfg.specs.Walks.{handlers_in}
use Rattle.walk_marks.specs.Walks.{is_on}
use Rattle.body_graph.specs.Walks.{insn_at, onward, caught, IsRead, IsReadAt}
use Rattle.body_graph.specs.Walks as read
use Rattle.body_graph.specs.Graph.{covering}
use Rattle.body_graph.proofs.Members.{none, first, there, split, get_inside}
use Rattle.body_graph.proofs.Links.{caught_of, caught_by}
use Rattle.live_regs.specs.Words.{has, IsMask, word_at, has_any}
use Rattle.live_regs.specs.Sweeps.{flows, IsPut, AreRead, IsReadCaught, AreReadCaught, AreSoFar, AreCovers, HaveFlowed, HaveCaught, AreWords, AreLiveWords}
use Rattle.live_regs.specs.Live.{is_live, has_words}
use Rattle.live_regs.specs.Liveness.{AreMarks}
use Rattle.live_regs.specs.declared.table.Live.{Live}

-- ---- some place of a list

any_from : (p : ℕ → Bool) (ns : List ℕ) → list_any p ns ≡ true → (m : ℕ) × Contains ns m × (p m ≡ true)
any_from p [] h = absurd (false≢true h)
any_from p (n ∷ ns) h = elim (or_cases (p n) (list_any p ns) h) [
  | inl here ↦ (n, first n ns, here)
  | inr more ↦ (let w = any_from p ns more in (w.0, there n ns w.0 w.1, w.2))
]

any_to : (p : ℕ → Bool) (ns : List ℕ) (m : ℕ) → Contains ns m → p m ≡ true → list_any p ns ≡ true
any_to p [] m c h = absurd (none m c)
any_to p (n ∷ ns) m c h = elim (split n ns m c) [
  | inl e ↦ or_left (p n) (list_any p ns) (subst (λ (k : ℕ). p k ≡ true) (sym e) h)
  | inr d ↦ or_right (p n) (list_any p ns) (any_to p ns m d h)
]

-- ---- what flows is live

read_flows : (b : Body) (words thrown : List ℕ) (n r : ℕ) (i : Insn) → insn_at b n ≡ Some i → r < 64 → AreRead b words → AreReadCaught b thrown → flows words thrown (covering b.regions n) n i r ≡ true → IsRead b r n
read_flows b words thrown n r i e lt ws ts h =
    elim (or_cases (reads_of i r || (has_any words r (onward i n) && not (writes_of i r))) (throws i && has (word_at thrown (covering b.regions n)) r) h) [
      | inr t ↦ (let both = and_parts (throws i) (has (word_at thrown (covering b.regions n)) r) t in
          let c = ts (covering b.regions n) r lt both.1 in
          (c.read.0, read.Caught n c.handler c.read.0 i e (caught_by b n c.handler i c.region both.0 c.is_region c.handles) c.read.1))
      | inl o ↦ elim (or_cases (reads_of i r) (has_any words r (onward i n) && not (writes_of i r)) o) [
        | inl here ↦ (n, read.Here n i e here)
        | inr on ↦ (let both = and_parts (has_any words r (onward i n)) (not (writes_of i r)) on in
            let w = any_from (λ m. has (word_at words m) r) (onward i n) both.0 in
            let l = ws w.0 r lt w.2 in
            (l.0, read.Onward n w.0 l.0 i e (not-true (writes_of i r) both.1) w.1 l.1))
      ]
    ]

read_caught : (b : Body) (words : List ℕ) (k r : ℕ) (s : Region) → slice_get b.regions k ≡ Some s → r < 64 → AreRead b words → has_any words r (handlers_in s) ≡ true → IsReadCaught b r k
read_caught b words k r s e lt ws h =
    let w = any_from (λ m. has (word_at words m) r) (handlers_in s) h in
    record { handler = w.0; region = s; is_region = e; handles = w.1; read = ws w.0 r lt w.2 }

-- ---- one word

put_at : (old new : List ℕ) (n w : ℕ) → n < length old → new ≡ slice_set old n w → word_at new n ≡ w
put_at old new n w lt e = ap (λ (l : List ℕ). word_at l n) e ∙ get_or-set_same old n w 0 lt

put_else : (old new : List ℕ) (n w m : ℕ) → (m ≡ n → ⊥) → new ≡ slice_set old n w → word_at new m ≡ word_at old m
put_else old new n w m k e = ap (λ (l : List ℕ). word_at l m) e ∙ get_or-set_other old n m w 0 k

put_read : (b : Body) (test : ℕ → Bool) (old new : List ℕ) (n : ℕ) (c : Bool) → n < length old → IsPut test n old new c → ((r : ℕ) → r < 64 → test r ≡ true → IsRead b r n) → AreRead b old → AreRead b new
put_read b test old new n c lt p h s m r small on = elim (cases_eq m n) [
  | inl e ↦ (let w : has (word_at new n) r ≡ true = subst (λ (k : ℕ). has (word_at new k) r ≡ true) e on in
      subst (IsRead b r) (sym e) (h r small (sym (ap (λ (x : ℕ). has x r) (put_at old new n p.word lt p.is) ∙ p.mask r small) ∙ w)))
  | inr k ↦ s m r small (ap (λ (x : ℕ). has x r) (sym (put_else old new n p.word m k p.is)) ∙ on)
]

put_caught : (b : Body) (test : ℕ → Bool) (old new : List ℕ) (n : ℕ) (c : Bool) → n < length old → IsPut test n old new c → ((r : ℕ) → r < 64 → test r ≡ true → IsReadCaught b r n) → AreReadCaught b old → AreReadCaught b new
put_caught b test old new n c lt p h s m r small on = elim (cases_eq m n) [
  | inl e ↦ (let w : has (word_at new n) r ≡ true = subst (λ (k : ℕ). has (word_at new k) r ≡ true) e on in
      subst (IsReadCaught b r) (sym e) (h r small (sym (ap (λ (x : ℕ). has x r) (put_at old new n p.word lt p.is) ∙ p.mask r small) ∙ w)))
  | inr k ↦ s m r small (ap (λ (x : ℕ). has x r) (sym (put_else old new n p.word m k p.is)) ∙ on)
]

put_long : (test : ℕ → Bool) (old new : List ℕ) (n : ℕ) (c : Bool) → IsPut test n old new c → length new ≡ length old
put_long test old new n c p = ap length p.is ∙ length-set old n p.word

-- ---- a sweep over the positions

-- the positions from one on were swept over
pub record SweptFrom (b : Body) (thrown old new : List ℕ) (changed : Bool) (from : ℕ) : Type 0 where
  pub so_far : AreSoFar b thrown new
  pub same : changed ≡ false → new ≡ old
  pub flowed : changed ≡ false → (n : ℕ) (i : Insn) → from ≤ n → insn_at b n ≡ Some i → IsMask (flows new thrown (covering b.regions n) n i) (word_at new n)

pub swept_none : (b : Body) (thrown words : List ℕ) (changed : Bool) (from : ℕ) → length b.insns ≤ from → AreSoFar b thrown words → SweptFrom b thrown words words changed from
swept_none b thrown words changed from past s = record {
  so_far = s;
  same = λ e. refl;
  flowed = λ e n i le at. absurd (omega (arith, le, past, get_inside b.insns n i at));
}

swept_more : (b : Body) (thrown old mid new : List ℕ) (changed moved changed' : Bool) (n k : ℕ) (i : Insn) → insn_at b n ≡ Some i → n < length mid → k ≡ covering b.regions n → changed' ≡ (changed || moved)
    → SweptFrom b thrown old mid changed (n + 1) → IsPut (flows mid thrown k n i) n mid new moved → SweptFrom b thrown old new changed' n
swept_more b thrown old mid new changed moved changed' n k i at inside region either s p = record {
  so_far = record {
    long = put_long (flows mid thrown k n i) mid new n moved p ∙ s.so_far.long;
    regions_long = s.so_far.regions_long;
    read = put_read b (flows mid thrown k n i) mid new n moved inside p
        (λ r small h. read_flows b mid thrown n r i at small s.so_far.read s.so_far.read_caught (subst (λ (j : ℕ). flows mid thrown j n i r ≡ true) region h)) s.so_far.read;
    read_caught = s.so_far.read_caught;
  };
  same = λ e. (let no = or_parts changed moved (sym either ∙ e) in p.same no.1 ∙ s.same no.0);
  flowed = λ e m j le at'.
      (let no = or_parts changed moved (sym either ∙ e) in
      let still : new ≡ mid = p.same no.1 in
      subst (λ (l : List ℕ). IsMask (flows l thrown (covering b.regions m) m j) (word_at l m)) (sym still) (elim (cases_lt n m) [
        | inl less ↦ s.flowed no.0 m j (omega (arith, less)) at'
        | inr past ↦ (let here : n ≡ m = omega (arith, past, le) in
            let form : i ≡ j = (let t : ◌≡◌ {A = Option Insn} (Some i) (Some j) = sym at ∙ (ap (insn_at b) here ∙ at') in cc) in
            subst (λ (q : ℕ). IsMask (flows mid thrown (covering b.regions q) q j) (word_at mid q)) here
            (subst (λ (f : Insn). IsMask (flows mid thrown (covering b.regions n) n f) (word_at mid n)) form
            (subst (λ (q : ℕ). IsMask (flows mid thrown q n i) (word_at mid n)) region
            (subst (IsMask (flows mid thrown k n i)) (sym (ap (λ (l : List ℕ). word_at l n) (sym still) ∙ put_at mid new n p.word inside p.is)) p.mask))))
      ]));
}

at_get : {A : Type 0} (xs : List A) (n : ℕ) (x : A) → n < length xs → x ≡ get_or xs n x → slice_get xs n ≡ Some x
at_get [] n x lt e = absurd (omega (arith, lt))
at_get (y ∷ ys) zero x lt e = ap Some (sym e)
at_get (y ∷ ys) (suc n) x lt e = at_get ys n x (omega (arith, lt)) e

-- the last of so many positions
pub swept_back : (b : Body) (covers thrown old mid new : List ℕ) (changed moved changed' : Bool) (p k : ℕ) (i : Insn) → AreCovers b covers → 0 < p → p ≤ length b.insns → i ≡ get_or b.insns (p - 1) i → k ≡ slice_index covers (p - 1)
    → changed' ≡ (changed || moved) → SweptFrom b thrown old mid changed p → IsPut (flows mid thrown k (p - 1) i) (p - 1) mid new moved → SweptFrom b thrown old new changed' (p - 1)
swept_back b covers thrown old mid new changed moved changed' p k i cs some le at region either s put =
    let e : p ≡ (p - 1) + 1 = omega arith in
    swept_more b thrown old mid new changed moved changed' (p - 1) k i (at_get b.insns (p - 1) i (omega arith) at) (omega (arith, s.so_far.long, le, some)) (region ∙ cs.each (p - 1) (omega (arith, some, le))) either
    (subst (λ (q : ℕ). SweptFrom b thrown old mid changed q) e s) put

pub swept_done : (b : Body) (thrown old new : List ℕ) (changed : Bool) (p : ℕ) → p ≤ 0 → SweptFrom b thrown old new changed p → changed ≡ false → HaveFlowed b new thrown
swept_done b thrown old new changed p le s e n i at = s.flowed e n i (omega (arith, le)) at

-- ---- a sweep over the regions

pub record SweptUpto (b : Body) (words new : List ℕ) (changed : Bool) (upto : ℕ) : Type 0 where
  pub so_far : AreSoFar b new words
  pub caught : changed ≡ false → (k : ℕ) (s : Region) → k < upto → slice_get b.regions k ≡ Some s → IsMask (λ r. has_any words r (handlers_in s)) (word_at new k)

pub upto_none : (b : Body) (words thrown : List ℕ) (changed : Bool) → AreSoFar b thrown words → SweptUpto b words thrown changed 0
upto_none b words thrown changed s = record {
  so_far = s;
  caught = λ e k g lt at. absurd (omega (arith, lt));
}

pub upto_more : (b : Body) (words mid new : List ℕ) (changed moved changed' : Bool) (n : ℕ) (s : Region) → n < length b.regions → s ≡ get_or b.regions n s → changed' ≡ (changed || moved)
    → SweptUpto b words mid changed n → IsPut (λ r. has_any words r (handlers_in s)) n mid new moved → SweptUpto b words new changed' (n + 1)
upto_more b words mid new changed moved changed' n s lt is either u p = record {
  so_far = record {
    long = u.so_far.long;
    regions_long = put_long (λ r. has_any words r (handlers_in s)) mid new n moved p ∙ u.so_far.regions_long;
    read = u.so_far.read;
    read_caught = put_caught b (λ r. has_any words r (handlers_in s)) mid new n moved inside p (λ r small h. read_caught b words n r s at small u.so_far.read h) u.so_far.read_caught;
  };
  caught = λ e k g less at'.
      (let no = or_parts changed moved (sym either ∙ e) in
      elim (cases_lt k n) [
        | inl before ↦ subst (λ (l : List ℕ). IsMask (λ r. has_any words r (handlers_in g)) (word_at l k)) (sym (p.same no.1)) (u.caught no.0 k g before at')
        | inr past ↦ (let here : n ≡ k = omega (arith, past, less) in
            let same : s ≡ g = (let t : ◌≡◌ {A = Option Region} (Some s) (Some g) = sym at ∙ (ap (slice_get b.regions) here ∙ at') in cc) in
            subst (λ (q : ℕ). IsMask (λ r. has_any words r (handlers_in g)) (word_at new q)) here
            (subst (λ (q : Region). IsMask (λ r. has_any words r (handlers_in q)) (word_at new n)) same
            (subst (IsMask (λ r. has_any words r (handlers_in s))) (sym (put_at mid new n p.word inside p.is)) p.mask)))
      ]);
}
  where
    at : slice_get b.regions n ≡ Some s
    at = at_get b.regions n s lt is

    inside : n < length mid
    inside = omega (arith, lt, u.so_far.regions_long)

pub upto_done : (b : Body) (words new : List ℕ) (changed : Bool) (upto : ℕ) → length b.regions ≤ upto → SweptUpto b words new changed upto → changed ≡ false → HaveCaught b words new
upto_done b words new changed upto all u e k s at = u.caught e k s (omega (arith, all, get_inside b.regions k s at)) at

-- ---- the first words

word_none : (k n : ℕ) → word_at (replicate k 0) n ≡ 0
word_none zero n = refl
word_none (suc k) zero = refl
word_none (suc k) (suc n) = word_none k n

has_none : (r : ℕ) → has 0 r ≡ false
has_none r = ap (λ (x : ℕ). nat_eq x 1) (bit_at-zero r)

pub first_words : (b : Body) (caught before : List ℕ) → caught ≡ replicate (length b.regions) 0 → before ≡ replicate (length b.insns) 0 → AreSoFar b caught before
first_words b caught before e f = record {
  long = ap length f ∙ length-replicate (length b.insns) 0;
  regions_long = ap length e ∙ length-replicate (length b.regions) 0;
  read = λ n r lt h. absurd (false≢true (sym (nothing before (length b.insns) n r f) ∙ h));
  read_caught = λ k r lt h. absurd (false≢true (sym (nothing caught (length b.regions) k r e) ∙ h));
}
  where
    nothing : (words : List ℕ) (k n r : ℕ) → words ≡ replicate k 0 → has (word_at words n) r ≡ false
    nothing words k n r e = ap (λ (l : List ℕ). has (word_at l n) r) e ∙ ap (λ (x : ℕ). has x r) (word_none k n) ∙ has_none r

-- ---- once no word changes

module _ (b : Body) (words thrown : List ℕ) (flowed : HaveFlowed b words thrown) (caught' : HaveCaught b words thrown) (r : ℕ) (small : r < 64) where
  on : (n : ℕ) (i : Insn) → insn_at b n ≡ Some i → flows words thrown (covering b.regions n) n i r ≡ true → has (word_at words n) r ≡ true
  on n i e h = flowed n i e r small ∙ h

  has_read : (n k : ℕ) → IsReadAt b r n k → has (word_at words n) r ≡ true
  has_read n k (read.Here m i e h) = on n i e (or_left (reads_of i r || (has_any words r (onward i n) && not (writes_of i r))) (throws i && has (word_at thrown (covering b.regions n)) r) (or_left (reads_of i r) (has_any words r (onward i n) && not (writes_of i r)) h))
  has_read n k (read.Onward m l j i e w c rest) =
      on n i e (or_left (reads_of i r || (has_any words r (onward i n) && not (writes_of i r))) (throws i && has (word_at thrown (covering b.regions n)) r)
      (or_right (reads_of i r) (has_any words r (onward i n) && not (writes_of i r)) (and_from (has_any words r (onward i n)) (not (writes_of i r)) (any_to (λ m. has (word_at words m) r) (onward i n) l c (has_read l k rest)) (not_from_false (writes_of i r) w))))
  has_read n k (read.Caught m l j i e c rest) =
      let h = caught_of b n l i c in
      let t : has (word_at thrown (covering b.regions n)) r ≡ true = caught' (covering b.regions n) h.1.0 h.1.1 r small ∙ any_to (λ m. has (word_at words m) r) (handlers_in h.1.0) l h.1.2 (has_read l k rest) in
      on n i e (or_right (reads_of i r || (has_any words r (onward i n) && not (writes_of i r))) (throws i && has (word_at thrown (covering b.regions n)) r) (and_from (throws i) (has (word_at thrown (covering b.regions n)) r) h.0 t))

-- a sweep that changes no word over the regions, by the words from before, nor over the positions
pub words_are : (b : Body) (old words thrown : List ℕ) → words ≡ old → AreSoFar b thrown words → HaveFlowed b words thrown → HaveCaught b old thrown → AreWords b words
words_are b old words thrown e s flowed caught' n r lt =
    ((λ h. s.read n r lt h), (λ w. has_read b words thrown flowed (subst (λ (l : List ℕ). HaveCaught b l thrown) (sym e) caught') r lt n w.0 w.1))

-- ---- the answer

no_row : (marks : List (List Bool)) (n r : ℕ) → marks ≡ [] → is_on (slice_index_or marks r []) n ≡ false
no_row marks n r e = ap (λ (l : List (List Bool)). is_on (slice_index_or l r []) n) e

or_false : (t u : Bool) → u ≡ false → (t || u) ≡ t
or_false true u e = refl
or_false false u e = e

none_of : {A : Type 0} (xs : List A) → length xs ≡ 0 → xs ≡ []
none_of [] e = refl
none_of (x ∷ xs) e = absurd (omega (arith, e))

pub word_is : (live : Live) (n w : ℕ) → has_words live ≡ true → w ≡ word_at live.words.items n → IsMask (is_live live n) w
word_is live n w h e r lt =
    let none : live.marks.items ≡ [] = none_of live.marks.items (eqb-true (length live.marks.items) 0 h) in
    ap (λ (x : ℕ). has x r) e ∙ sym (or_false (has (word_at live.words.items n) r) (is_on (slice_index_or live.marks.items r []) n) (no_row live.marks.items n r none))

pub words_of_few : (b : Body) (words : List ℕ) → b.registers ≤ 64 → AreWords b words → AreLiveWords b words
words_of_few b words few are n r lt = are n r (omega (arith, lt, few))

pub live_of_words : (b : Body) (live : Live) → live.marks.items ≡ [] → AreLiveWords b live.words.items → (n r : ℕ) → r < b.registers → (is_live live n r ≡ true) ↔ IsRead b r n
live_of_words b live none are n r lt =
    let x = are n r lt in
    let same : is_live live n r ≡ has (word_at live.words.items n) r = or_false (has (word_at live.words.items n) r) (is_on (slice_index_or live.marks.items r []) n) (no_row live.marks.items n r none) in
    ((λ h. x.0 (sym same ∙ h)), (λ w. same ∙ x.1 w))

pub live_of_marks : (b : Body) (live : Live) → live.words.items ≡ [] → ((r : ℕ) → r < b.registers → AreMarks b r (slice_index_or live.marks.items r [])) → (n r : ℕ) → r < b.registers → (is_live live n r ≡ true) ↔ IsRead b r n
live_of_marks b live none marks n r lt =
    let x = marks r lt n in
    let same : is_live live n r ≡ is_on (slice_index_or live.marks.items r []) n =
    ap (λ (l : List ℕ). has (word_at l n) r || is_on (slice_index_or live.marks.items r []) n) none ∙ ap (λ (t : Bool). t || is_on (slice_index_or live.marks.items r []) n) (has_none r) in
    ((λ h. x.0 (sym same ∙ h)), (λ w. same ∙ x.1 w))
