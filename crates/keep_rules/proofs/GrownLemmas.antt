-- Marks that grow.
use Rattle.std.proofs.Common.{◌≡◌, ℕ, ◌+◌, ◌<◌, ◌≤◌, Bool, true, false, true≢false, nat_eq, List, length, set, get_or, drop, replicate, refl, sym, ap, subst, ◌∙◌, eqb-true, eq-eqb}
use Rattle.std.specs.Prelude.{◌&&◌, ◌||◌, not, if◌then◌else◌}
use Rattle.std.proofs.lemmas.List.{get_or-set_other, get_or-set_same, get_or-replicate, length-replicate, length-set, drop_more, drop_all}
use Rattle.keep_rules.specs.Marks.{is_on}
use Rattle.keep_rules.specs.Table.{has}
use Rattle.keep_rules.specs.Grown.{Grew, Left, Kept, Live, Described, DescribedLive, marks_in, is_in, GrewMembers, IsClear, AreMarked}
use Rattle.keep_rules.specs.declared.marks.MemberMarks.{MemberMarks}

-- ---- one list of marks

or_none : (a : Bool) → (a || false) ≡ a
or_none true = refl
or_none false = refl

or_moved : (a b c : Bool) → ((a || b) || c) ≡ (a || (b || c))
or_moved true b c = refl
or_moved false b c = refl

pub grew_none : (t : ℕ → Bool) (old : List Bool) → ((n : ℕ) → t n ≡ false) → Grew t old old
grew_none t old e = record { size = refl; is = λ n h. sym (ap (λ b. is_on old n || b) (e n) ∙ or_none (is_on old n)) }

pub grew_as : (t u : ℕ → Bool) (old new : List Bool) → ((n : ℕ) → t n ≡ u n) → Grew t old new → Grew u old new
grew_as t u old new e g = record { size = g.size; is = λ n h. g.is n h ∙ ap (λ b. is_on old n || b) (e n) }

pub grew_then : (t u : ℕ → Bool) (old mid new : List Bool) → Grew t old mid → Grew u mid new → Grew (λ n. t n || u n) old new
grew_then t u old mid new g k = record {
  size = k.size ∙ g.size;
  is = λ n h. k.is n (subst (λ m. n < m) (sym g.size) h) ∙ ap (λ b. b || u n) (g.is n h) ∙ or_moved (is_on old n) (t n) (u n);
}

set_is : (old : List Bool) (k n : ℕ) → n < length old → is_on (set old k true) n ≡ (is_on old n || nat_eq n k)
set_is old k n h = step (nat_eq n k) refl
  where
    or_true : (a : Bool) → true ≡ (a || true)
    or_true true = refl
    or_true false = refl

    step : (b : Bool) → nat_eq n k ≡ b → is_on (set old k true) n ≡ (is_on old n || b)
    step true s = let e : n ≡ k = eqb-true n k s in ap (λ m. is_on (set old m true) n) (sym e) ∙ get_or-set_same old n true false h ∙ or_true (is_on old n)
    step false s = get_or-set_other old k n true false (λ d. true≢false (sym (eq-eqb n k d) ∙ s)) ∙ sym (or_none (is_on old n))

pub grew_set : (old new : List Bool) (k : ℕ) → new ≡ set old k true → Grew (λ n. nat_eq n k) old new
grew_set old new k e = record { size = ap length e ∙ length-set old k true; is = λ n h. ap (λ l. is_on l n) e ∙ set_is old k n h }

pub grew_if : (b : Bool) (old new : List Bool) (k : ℕ) → new ≡ (if b then set old k true else old) → Grew (λ n. b && nat_eq n k) old new
grew_if true old new k e = grew_set old new k e
grew_if false old new k e = subst (Grew (λ n. false) old) (sym e) (grew_none (λ n. false) old (λ n. refl))

-- ---- what is still to come

pub left_start : (all : ℕ → Bool) (old : List Bool) → Left all all old old
left_start all old = record { size = refl; is = λ n h. refl }

pub left_end : (rest all : ℕ → Bool) (old new : List Bool) → ((n : ℕ) → rest n ≡ false) → Left rest all old new → Grew all old new
left_end rest all old new e l = record { size = l.size; is = λ n h. sym (ap (λ b. is_on new n || b) (e n) ∙ or_none (is_on new n)) ∙ l.is n h }

pub left_more : (rest less all t : ℕ → Bool) (old mid new : List Bool) → ((n : ℕ) → rest n ≡ (t n || less n)) → Left rest all old mid → Grew t mid new → Left less all old new
left_more rest less all t old mid new e l g = record {
  size = g.size ∙ l.size;
  is = λ n h. ap (λ b. b || less n) (g.is n (subst (λ m. n < m) (sym l.size) h)) ∙ or_moved (is_on mid n) (t n) (less n) ∙ ap (λ b. is_on mid n || b) (sym (e n)) ∙ l.is n h;
}

pub left_stay : (rest less all : ℕ → Bool) (old new : List Bool) → ((n : ℕ) → rest n ≡ less n) → Left rest all old new → Left less all old new
left_stay rest less all old new e l = record { size = l.size; is = λ n h. ap (λ b. is_on new n || b) (sym (e n)) ∙ l.is n h }

-- ---- each of some numbers

pub each_more : (old mid new : List Bool) (ks : List ℕ) (i k : ℕ) → i < length ks → k ≡ get_or ks i k → Left (has (drop i ks)) (has ks) old mid → new ≡ set mid k true → Left (has (drop (i + 1) ks)) (has ks) old new
each_more old mid new ks i k h e l s = left_more (has (drop i ks)) (has (drop (i + 1) ks)) (has ks) (λ n. nat_eq n k) old mid new
    (λ n. ap (λ xs. has xs n) (drop_more ks i k h) ∙ ap (λ j. nat_eq n j || has (drop (i + 1) ks) n) (sym e)) l (grew_set mid new k s)

pub each_end : (old new : List Bool) (ks : List ℕ) (i : ℕ) → length ks ≤ i → Left (has (drop i ks)) (has ks) old new → Grew (has ks) old new
each_end old new ks i h l = left_end (has (drop i ks)) (has ks) old new (λ n. ap (λ xs. has xs n) (drop_all i ks h)) l

-- ---- no marks

pub clear_is : (size : ℕ) (marks : List Bool) → marks ≡ replicate size false → IsClear size marks
clear_is size marks e = record {
  size = ap length e ∙ length-replicate size false;
  none = λ n h. ap (λ l. is_on l n) e ∙ get_or-replicate size n false false h;
}

pub marked_is : (size : ℕ) (t : ℕ → Bool) (old new : List Bool) → IsClear size old → Grew t old new → AreMarked size t new
marked_is size t old new c g = record {
  size = g.size ∙ c.size;
  are = λ n h. g.is n (subst (λ m. n < m) (sym c.size) h) ∙ ap (λ b. b || t n) (c.none n h);
}

pub marked_more : (size : ℕ) (t u : ℕ → Bool) (old new : List Bool) → AreMarked size t old → Grew u old new → AreMarked size (λ n. t n || u n) new
marked_more size t u old new m g = record {
  size = g.size ∙ m.size;
  are = λ n h. g.is n (subst (λ k. n < k) (sym m.size) h) ∙ ap (λ b. b || u n) (m.are n h);
}

-- ---- one member

with_wanted : (w b : Bool) (n k : ℕ) → w ≡ true → (b && nat_eq n k) ≡ (b && (nat_eq n k && w))
with_wanted w true n k e = sym (ap (λ x. nat_eq n k && x) e ∙ last (nat_eq n k))
  where
    last : (a : Bool) → (a && true) ≡ a
    last true = refl
    last false = refl
with_wanted w false n k e = refl

without_wanted : (w b : Bool) (n k : ℕ) → w ≡ false → (b && (nat_eq n k && w)) ≡ false
without_wanted w true n k e = ap (λ x. nat_eq n k && x) e ∙ last (nat_eq n k)
  where
    last : (a : Bool) → (a && false) ≡ false
    last true = refl
    last false = refl
without_wanted w false n k e = refl

flip : (b : Bool) (old k : List Bool) → (if b then old else k) ≡ (if not b then k else old)
flip true old k = refl
flip false old k = refl

pub member_kept : (old new : MemberMarks) (k : ℕ) (a d w : Bool) → w ≡ true
    → new.kept.items ≡ (if a then set old.kept.items k true else old.kept.items)
    → new.live.items ≡ (if a then old.live.items else set old.live.items k true)
    → new.described.items ≡ (if a && d then set old.described.items k true else old.described.items)
    → new.described_live.items ≡ (if not a && d then set old.described_live.items k true else old.described_live.items)
    → GrewMembers a d (λ n. nat_eq n k && w) old new
member_kept old new k a d w e kept live described described_live Kept = grew_as (λ n. a && nat_eq n k) (λ n. a && (nat_eq n k && w)) old.kept.items new.kept.items (λ n. with_wanted w a n k e) (grew_if a old.kept.items new.kept.items k kept)
member_kept old new k a d w e kept live described described_live Live = grew_as (λ n. not a && nat_eq n k) (λ n. not a && (nat_eq n k && w)) old.live.items new.live.items (λ n. with_wanted w (not a) n k e)
    (grew_if (not a) old.live.items new.live.items k (live ∙ flip a old.live.items (set old.live.items k true)))
member_kept old new k a d w e kept live described described_live Described = grew_as (λ n. (a && d) && nat_eq n k) (λ n. (a && d) && (nat_eq n k && w)) old.described.items new.described.items (λ n. with_wanted w (a && d) n k e)
    (grew_if (a && d) old.described.items new.described.items k described)
member_kept old new k a d w e kept live described described_live DescribedLive = grew_as (λ n. (not a && d) && nat_eq n k) (λ n. (not a && d) && (nat_eq n k && w)) old.described_live.items new.described_live.items (λ n. with_wanted w (not a && d) n k e)
    (grew_if (not a && d) old.described_live.items new.described_live.items k described_live)

pub member_left : (m : MemberMarks) (k : ℕ) (a d w : Bool) → w ≡ false → GrewMembers a d (λ n. nat_eq n k && w) m m
member_left m k a d w e s = grew_none (λ n. is_in a d s && (nat_eq n k && w)) (marks_in s m) (λ n. without_wanted w (is_in a d s) n k e)
