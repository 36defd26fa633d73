-- Loops that ask for some live member, or for each line.
use Rattle.std.proofs.Common.{◌≡◌, ◌<◌, ◌-◌, ℕ, zero, suc, Bool, true, false, ◌&&◌, ◌||◌, List, [], ◌∷◌, take, drop, get_or, slice_index, length, Some, None, slice_get, refl, sym, ap, subst, ◌∙◌, arith}
use Rattle.std.specs.List.{list_all, list_any}
use Rattle.std.proofs.lemmas.List.{take_all}
use Rattle.class_defs.proofs.WellFormed.{and_left, and_right}
use Rattle.rule_text.specs.Related.{AreEach}

same_some : {X : Type 0} (x y : X) → Some x ≡ Some y → x ≡ y
same_some x y e = cc

-- ---- some one of those that are left

-- those that are left are known, and what is asked of all is asked of them
pub record AnyLeft {R : Type 0} (known t : R → Bool) (rest all : List R) : Type 0 where
  pub are : list_all known rest ≡ true
  pub is : list_any t rest ≡ list_any t all

pub any_begin : {R : Type 0} (known t : R → Bool) (all : List R) → list_all known all ≡ true → AnyLeft known t all all
any_begin known t all are = record { are = are; is = refl }

pub any_known : {R : Type 0} (known t : R → Bool) (r : R) (now rest all : List R) → now ≡ r ∷ rest → AnyLeft known t now all → known r ≡ true
any_known known t r now rest all is l = and_left (known r) (list_all known rest) (subst (λ rs. list_all known rs ≡ true) is l.are)

pub any_found : {R : Type 0} (known t : R → Bool) (r : R) (now rest all : List R) (b : Bool) → now ≡ r ∷ rest → AnyLeft known t now all → b ≡ t r → b ≡ true → true ≡ list_any t all
any_found known t r now rest all b is l says found = ap (λ x. x || list_any t rest) (sym found ∙ says) ∙ ap (list_any t) (sym is) ∙ l.is

pub any_passed : {R : Type 0} (known t : R → Bool) (r : R) (now rest all : List R) (b : Bool) → now ≡ r ∷ rest → AnyLeft known t now all → b ≡ t r → b ≡ false → AnyLeft known t rest all
any_passed known t r now rest all b is l says none = record {
  are = and_right (known r) (list_all known rest) (subst (λ rs. list_all known rs ≡ true) is l.are);
  is = ap (λ x. x || list_any t rest) (sym none ∙ says) ∙ ap (list_any t) (sym is) ∙ l.is;
}

pub any_end : {R : Type 0} (known t : R → Bool) (now all : List R) → now ≡ [] → AnyLeft known t now all → false ≡ list_any t all
any_end known t now all none l = ap (list_any t) (sym none) ∙ l.is

-- ---- each of those that are left

pub record AllLeft {R S : Type 0} (P : R → S → Type 0) (t : S → Bool) (rest : List R) (ss : List S) : Type 0 where
  pub left : List S
  pub are : AreEach P rest left
  pub is : list_all t left ≡ list_all t ss

pub all_begin : {R S : Type 0} (P : R → S → Type 0) (t : S → Bool) (rs : List R) (ss : List S) → AreEach P rs ss → AllLeft P t rs ss
all_begin P t rs ss are = record { left = ss; are = are; is = refl }

failed_by : {R S : Type 0} (P : R → S → Type 0) (t : S → Bool) (r : R) (rest : List R) (ss left : List S) (b : Bool) → AreEach P (r ∷ rest) left → list_all t left ≡ list_all t ss → ((s : S) → P r s → b ≡ t s) → b ≡ false → false ≡ list_all t ss
failed_by P t r rest ss [] b are is says none = absurd are
failed_by P t r rest ss (s ∷ left) b are is says none = ap (λ x. x && list_all t left) (sym none ∙ says s are.0) ∙ is

pub all_failed : {R S : Type 0} (P : R → S → Type 0) (t : S → Bool) (r : R) (now rest : List R) (ss : List S) (b : Bool) → now ≡ r ∷ rest → AllLeft P t now ss → ((s : S) → P r s → b ≡ t s) → b ≡ false → false ≡ list_all t ss
all_failed P t r now rest ss b is l says none = failed_by P t r rest ss l.left b (subst (λ (rs : List _). AreEach P rs l.left) is l.are) l.is says none

passed_by : {R S : Type 0} (P : R → S → Type 0) (t : S → Bool) (r : R) (rest : List R) (ss left : List S) (b : Bool) → AreEach P (r ∷ rest) left → list_all t left ≡ list_all t ss → ((s : S) → P r s → b ≡ t s) → b ≡ true → AllLeft P t rest ss
passed_by P t r rest ss [] b are is says some = absurd are
passed_by P t r rest ss (s ∷ left) b are is says some = record { left = left; are = are.1; is = ap (λ x. x && list_all t left) (sym some ∙ says s are.0) ∙ is }

pub all_passed : {R S : Type 0} (P : R → S → Type 0) (t : S → Bool) (r : R) (now rest : List R) (ss : List S) (b : Bool) → now ≡ r ∷ rest → AllLeft P t now ss → ((s : S) → P r s → b ≡ t s) → b ≡ true → AllLeft P t rest ss
all_passed P t r now rest ss b is l says some = passed_by P t r rest ss l.left b (subst (λ (rs : List _). AreEach P rs l.left) is l.are) l.is says some

end_by : {R S : Type 0} (P : R → S → Type 0) (t : S → Bool) (ss left : List S) → AreEach P [] left → list_all t left ≡ list_all t ss → true ≡ list_all t ss
end_by P t ss [] are is = is
end_by P t ss (s ∷ left) are is = absurd are

pub all_end : {R S : Type 0} (P : R → S → Type 0) (t : S → Bool) (now : List R) (ss : List S) → now ≡ [] → AllLeft P t now ss → true ≡ list_all t ss
all_end P t now ss none l = end_by P t ss l.left (subst (λ (rs : List _). AreEach P rs l.left) none l.are) l.is

-- the first of a list, and what is behind it
pub split_first : {X : Type 0} (xs : List X) (x : X) → 0 < length xs → x ≡ get_or xs 0 x → xs ≡ x ∷ take (length xs - 1) (drop 1 xs)
split_first [] x some is = absurd (omega (arith, some))
split_first (y ∷ ys) x some is =
    let e : length (y ∷ ys) - 1 ≡ length ys = omega arith in
    ap (λ z. z ∷ ys) (sym is) ∙ ap (λ zs. x ∷ zs) (sym (ap (λ k. take k ys) e ∙ take_all (length ys) ys (omega arith)))

pub split_number : (xs : List ℕ) → 0 < length xs → xs ≡ slice_index xs 0 ∷ take (length xs - 1) (drop 1 xs)
split_number [] some = absurd (omega (arith, some))
split_number (x ∷ xs) some =
    let e : length (x ∷ xs) - 1 ≡ length xs = omega arith in
    ap (λ ys. x ∷ ys) (sym (ap (λ k. take k xs) e ∙ take_all (length xs) xs (omega arith)))

-- what holds of all holds of the one at a place
pub all_at : {X : Type 0} (t : X → Bool) (xs : List X) (k : ℕ) (x : X) → list_all t xs ≡ true → slice_get xs k ≡ Some x → t x ≡ true
all_at t [] k x all at = cc
all_at t (y ∷ ys) zero x all at = ap t (sym (same_some y x at)) ∙ and_left (t y) (list_all t ys) all
all_at t (y ∷ ys) (suc k) x all at = all_at t ys k x (and_right (t y) (list_all t ys) all) at

-- ---- what belongs to the one at a place

pub record EachThere {R S : Type 0} (P : R → S → Type 0) (ss : List S) (k : ℕ) (r : R) : Type 0 where
  pub one : S
  pub is : slice_get ss k ≡ Some one
  pub related : P r one

pub each_there : {R S : Type 0} (P : R → S → Type 0) (rs : List R) (ss : List S) (k : ℕ) (r : R) → AreEach P rs ss → slice_get rs k ≡ Some r → EachThere P ss k r
each_there P [] ss k r are is = cc
each_there P (x ∷ rs) [] k r are is = absurd are
each_there P (x ∷ rs) (s ∷ ss) zero r are is = record { one = s; is = refl; related = subst (λ y. P y s) (same_some x r is) are.0 }
each_there P (x ∷ rs) (s ∷ ss) (suc k) r are is =
    let more : EachThere P ss k r = each_there P rs ss k r are.1 is in
    record { one = more.one; is = more.is; related = more.related }

pub each_past : {R S : Type 0} (P : R → S → Type 0) (rs : List R) (ss : List S) (k : ℕ) → AreEach P rs ss → slice_get rs k ≡ None → slice_get ss k ≡ None
each_past P [] [] k are is = refl
each_past P [] (s ∷ ss) k are is = absurd are
each_past P (x ∷ rs) [] k are is = absurd are
each_past P (x ∷ rs) (s ∷ ss) zero are is = cc
each_past P (x ∷ rs) (s ∷ ss) (suc k) are is = each_past P rs ss k are.1 is
