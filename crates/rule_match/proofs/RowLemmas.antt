-- Rows of what pieces match, place by place.
use Rattle.std.proofs.Common.{◌≡◌, ℕ, zero, suc, ◌+◌, ◌-◌, ◌<◌, ◌≤◌, Bool, true, false, List, [], ◌∷◌, length, drop, get_or, set, refl, sym, ap, ◌∙◌, arith, inl, inr}
use Rattle.std.specs.Prelude.{◌&&◌, ◌||◌, ◌==◌, ◌≢◌, if◌then◌else◌, slice_index_or}
use Rattle.std.proofs.lemmas.Bool.{cases_lt}
use Rattle.std.proofs.lemmas.List.{drop_more, drop_all, drop-drop, length-drop, length-set, get_or-set_same, get_or-set_other}
use Rattle.rule_text.specs.declared.pattern.Named.{Named}
use Rattle.rule_text.specs.Glob.{read_of, passes_of, begins_pair, behind_one, unit_then, one_then, star_then, IsRow}
use Rattle.rule_match.specs.Rows.{unit_at, one_at}

-- ---- loops that write a row from its front

-- the places in front of this one are written, and the others are as they were
pub record IsWritten (new : ℕ → Bool) (old row : List Bool) (at : ℕ) : Type 0 where
  pub size : length row ≡ length old
  pub front : (k : ℕ) → k < at → get_or row k false ≡ new k
  pub behind : (k : ℕ) → at ≤ k → get_or row k false ≡ get_or old k false

pub none_written : (new : ℕ → Bool) (row : List Bool) → IsWritten new row row 0
none_written new row = record { size = refl; front = λ k h. absurd (omega arith); behind = λ k h. refl }

pub one_written : (new : ℕ → Bool) (old row : List Bool) (at : ℕ) (v : Bool) → IsWritten new old row at → at < length row → v ≡ new at → IsWritten new old (set row at v) (at + 1)
one_written new old row at v is short e = record {
  size = length-set row at v ∙ is.size;
  front = λ k h. elim (cases_lt k at) [
    | inl l ↦ get_or-set_other row at k v false (let d : k ≢ at = λ s. omega (arith, l, s) in d) ∙ is.front k l
    | inr g ↦ let s : k ≡ at = omega (arith, h, g) in ap (λ j. get_or (set row at v) j false) s ∙ get_or-set_same row at v false short ∙ e ∙ ap new (sym s)
  ];
  behind = λ k h. get_or-set_other row at k v false (let d : k ≢ at = λ s. omega (arith, h, s) in d) ∙ is.behind k (omega arith);
}

-- the row at the end, with its last place written
pub record IsWhole (new : ℕ → Bool) (n : ℕ) (row : List Bool) : Type 0 where
  pub front : (k : ℕ) → k < n → get_or row k false ≡ new k
  pub last : get_or row n false ≡ false

pub all_written : (new : ℕ → Bool) (old row : List Bool) (at n : ℕ) → IsWritten new old row at → at ≡ n → length old ≡ n + 1 → IsWhole new n (set row n false)
all_written new old row at n is end size = record {
  front = λ k h. get_or-set_other row n k false false (let d : k ≢ n = λ s. omega (arith, h, s) in d) ∙ is.front k (omega (arith, h, end));
  last = let z = is.size in get_or-set_same row n false false (omega (arith, z, size));
}

-- ---- one step for each piece

module _ (f : List ℕ → Bool) (text : List ℕ) where
  step_of : (g : List ℕ → Bool) (row : List Bool) → ((k : ℕ) → k < length text → get_or row k false ≡ g (get_or text k 0 ∷ drop (k + 1) text)) → get_or row (length text) false ≡ g [] → IsRow g text row
  step_of g row front last = record {
    at = λ k h. elim (cases_lt k (length text)) [
      | inl l ↦ front k l ∙ sym (ap g (drop_more text k 0 l))
      | inr s ↦ let e : k ≡ length text = omega (arith, h, s) in ap (λ j. get_or row j false) e ∙ last ∙ sym (ap g (drop_all k text s))
    ];
  }

  pub unit_row : (named : Named) (unit : ℕ) (old row : List Bool) → IsRow f text old → IsWhole (unit_at text named unit old) (length text) row → IsRow (unit_then named unit f) text row
  unit_row named unit old row is whole = step_of (unit_then named unit f) row
      (λ k l. whole.front k l ∙ ap (λ b. (read_of named (get_or text k 0) == unit) && b) (is.at (k + 1) (omega arith)))
      whole.last

  pair_is_long : (t : List ℕ) → begins_pair t ≡ true → 2 ≤ length t
  pair_is_long [] e = cc
  pair_is_long (a ∷ []) e = cc
  pair_is_long (a ∷ b ∷ t) e = omega arith

  behind_at : (old : List Bool) (k : ℕ) → IsRow f text old → k < length text → (b : Bool) → begins_pair (drop k text) ≡ b → get_or old (k + (if b then 2 else 1)) false ≡ f (if b then drop 2 (drop k text) else drop 1 (drop k text))
  behind_at old k is l true e = let long = pair_is_long (drop k text) e in is.at (k + 2) (omega (arith, long, length-drop k text)) ∙ ap f (sym (drop-drop 2 k text))
  behind_at old k is l false e = is.at (k + 1) (omega arith) ∙ ap f (sym (drop-drop 1 k text))

  pub one_row : (named : Named) (old row : List Bool) → IsRow f text old → IsWhole (one_at text named old) (length text) row → IsRow (one_then named f) text row
  one_row named old row is whole = step_of (one_then named f) row
      (λ k l. whole.front k l ∙ ap (λ b. passes_of named (get_or text k 0) && b) (behind_at old k is l (begins_pair (drop k text)) refl ∙ ap (λ t. f (behind_one t)) (drop_more text k 0 l)))
      whole.last

-- the row behind a place is still as it was
pub one_step : (text : List ℕ) (named : Named) (old row : List Bool) (at : ℕ) → IsWritten (one_at text named old) old row at → one_at text named row at ≡ one_at text named old at
one_step text named old row at is = ap (λ b. passes_of named (get_or text at 0) && b) (behind (begins_pair (drop at text)))
  where
    behind : (b : Bool) → get_or row (at + (if b then 2 else 1)) false ≡ get_or old (at + (if b then 2 else 1)) false
    behind true = is.behind (at + 2) (omega arith)
    behind false = is.behind (at + 1) (omega arith)

-- ---- loops that write a row from its end

-- The places from this one on are written.
pub record IsStarred (passes : ℕ → Bool) (text : List ℕ) (old row : List Bool) (at : ℕ) : Type 0 where
  pub inside : at ≤ length text
  pub size : length row ≡ length old
  pub front : (k : ℕ) → k < at → get_or row k false ≡ get_or old k false
  pub behind : (k : ℕ) → at ≤ k → k < length text → get_or row k false ≡ (get_or old k false || (passes (get_or text k 0) && get_or row (k + 1) false))
  pub last : get_or row (length text) false ≡ get_or old (length text) false

pub none_starred : (passes : ℕ → Bool) (text : List ℕ) (row : List Bool) → IsStarred passes text row row (length text)
none_starred passes text row = record { inside = omega arith; size = refl; front = λ k h. refl; behind = λ k h g. absurd (omega arith); last = refl }

pub one_starred : (passes : ℕ → Bool) (text : List ℕ) (old row : List Bool) (at from : ℕ) (v : Bool) → IsStarred passes text old row from → from ≡ at + 1 → at < length row
    → v ≡ (get_or row at false || (passes (get_or text at 0) && get_or row (at + 1) false)) → IsStarred passes text old (set row at v) at
one_starred passes text old row at from v is next short e =
    let same : (k : ℕ) → k ≢ at → get_or (set row at v) k false ≡ get_or row k false = λ k d. get_or-set_other row at k v false d in
    let inside = is.inside in
    record {
      inside = omega (arith, inside, next);
      size = length-set row at v ∙ is.size;
      front = λ k h. same k (λ s. omega (arith, h, s)) ∙ is.front k (omega (arith, h, next));
      behind = λ k h g. elim (cases_lt at k) [
        | inl l ↦ same k (λ s. omega (arith, l, s)) ∙ is.behind k (omega (arith, l, next)) g
            ∙ ap (λ b. get_or old k false || (passes (get_or text k 0) && b)) (sym (same (k + 1) (λ s. omega (arith, l, s))))
        | inr m ↦ let s : k ≡ at = omega (arith, h, m) in
            ap (λ j. get_or (set row at v) j false) s ∙ get_or-set_same row at v false short ∙ e
            ∙ ap (λ b. b || (passes (get_or text at 0) && get_or row (at + 1) false)) (is.front at (omega (arith, next)))
            ∙ ap (λ b. get_or old at false || (passes (get_or text at 0) && b)) (sym (same (at + 1) (λ s. omega (arith, s))))
            ∙ ap (λ j. get_or old j false || (passes (get_or text j 0) && get_or (set row at v) (j + 1) false)) (sym s)
      ];
      last = same (length text) (λ s. omega (arith, inside, next, s)) ∙ is.last;
    }

pub star_row : (passes : ℕ → Bool) (f : List ℕ → Bool) (text : List ℕ) (old row : List Bool) (at : ℕ) → IsStarred passes text old row at → at ≤ 0 → IsRow f text old → IsRow (star_then passes f) text row
star_row passes f text old row at is first before = record { at = λ k h. from (length text - k) k (omega (arith, h)) }
  where
    from : (j k : ℕ) → k + j ≡ length text → get_or row k false ≡ star_then passes f (drop k text)
    from zero k e =
        let s : k ≡ length text = omega (arith, e) in
        ap (λ j. get_or row j false) s ∙ is.last ∙ before.at (length text) (omega arith)
        ∙ ap f (drop_all (length text) text (omega arith)) ∙ sym (ap (star_then passes f) (drop_all k text (omega (arith, e))))
    from (suc j) k e =
        let l : k < length text = omega (arith, e) in
        is.behind k (omega (arith, first)) l
        ∙ ap (λ b. b || (passes (get_or text k 0) && get_or row (k + 1) false)) (before.at k (omega (arith, l)) ∙ ap f (drop_more text k 0 l))
        ∙ ap (λ b. f (get_or text k 0 ∷ drop (k + 1) text) || (passes (get_or text k 0) && b)) (from j (k + 1) (omega (arith, e)))
        ∙ sym (ap (star_then passes f) (drop_more text k 0 l))
