-- Handler lists, number by number and list by list, as loops go through them.
use Rattle.std.proofs.Common.{◌≡◌, ℕ, zero, suc, ◌≤◌, ◌<◌, ◌+◌, ◌-◌, List, [], ◌∷◌, ◌++◌, length, refl, sym, ap, subst, ◌∙◌, append_assoc, arith, inl, inr}
use Rattle.std.specs.Prelude.{Bool, true, false, ◌||◌, ◌==◌, IsTrue, Option, Some, None, Result, Ok, Err}
use Rattle.std.specs.List.{list_any}
use Rattle.std.specs.Result.{result_ok}
use Rattle.std.proofs.lemmas.Bool.{ne_eqb}
use Rattle.std.proofs.lemmas.List.{append-nil}
use Rattle.std.proofs.lemmas.List.Folds.{list_any-append}
use Rattle.dex_base.proofs.LebReading.{is_uleb, is_sleb, some_byte}
use Rattle.program_model.specs.declared.body.Handler.{Handler}
use Rattle.code_read.specs.Handlers.{◌>?=◌, number_at, size_at, skip_numbers, numbers_behind, list_end, lists_behind, lists_from, handler_at, handlers_at}
use Rattle.code_read.specs.Positions.{rises_in}
use Rattle.code_read.proofs.Rises.{RisesIn, rising, risen, rises_wider}

-- ---- numbers

ok_of : {A E : Type 0} (r : Result A E) (x : A) → result_ok r ≡ Some x → r ≡ Ok x
ok_of (Ok y) x h = let same : y ≡ x = cc in ap Ok same
ok_of (Err e) x h = absurd cc

pub number_behind : (bytes : List ℕ) (at : ℕ) (read : ℕ × ℕ) → number_at bytes at ≡ Some read → at < read.1
number_behind bytes at read h =
    let is = (is_uleb bytes at).found read (ok_of _ read h) in
    omega (arith, is.behind, some_byte is.text is.stands.is.ends)

pub skip_on : (bytes : List ℕ) (left at : ℕ) (read : ℕ × ℕ) (total : Option ℕ) → skip_numbers bytes left at ≡ total → 0 < left → number_at bytes at ≡ Some read → skip_numbers bytes (left - 1) read.1 ≡ total
skip_on bytes zero at read total h lt is = absurd (omega (arith, lt))
skip_on bytes (suc left) at read total h lt is =
    let k : suc left - 1 ≡ left = omega arith in
    ap (λ (n : ℕ). skip_numbers bytes n read.1) k ∙ sym (ap (λ (o : Option (ℕ × ℕ)). o >?= λ r. skip_numbers bytes left r.1) is) ∙ h

pub skip_stops : (bytes : List ℕ) (left at : ℕ) (total : Option ℕ) → skip_numbers bytes left at ≡ total → 0 < left → number_at bytes at ≡ None → None ≡ total
skip_stops bytes zero at total h lt is = absurd (omega (arith, lt))
skip_stops bytes (suc left) at total h lt is = sym (ap (λ (o : Option (ℕ × ℕ)). o >?= λ r. skip_numbers bytes left r.1) is) ∙ h

pub skip_ends : (bytes : List ℕ) (left at : ℕ) (total : Option ℕ) → skip_numbers bytes left at ≡ total → left ≤ 0 → Some at ≡ total
skip_ends bytes zero at total h le = h
skip_ends bytes (suc left) at total h le = absurd (omega (arith, le))

-- ---- where lists begin

some_then : {A B : Type 0} (o : Option A) (f : A → Option B) (y : B) → (o >?= f) ≡ Some y → (x : A) × (o ≡ Some x) × (f x ≡ Some y)
some_then None f y h = absurd cc
some_then (Some x) f y h = (x, refl, h)

skips_behind : (bytes : List ℕ) (n at next : ℕ) → skip_numbers bytes n at ≡ Some next → at ≤ next
skips_behind bytes zero at next h = let e : at ≡ next = cc in omega (arith, e)
skips_behind bytes (suc n) at next h =
    let p = some_then (number_at bytes at) (λ read. skip_numbers bytes n read.1) next h in
    omega (arith, number_behind bytes at p.0 p.1, skips_behind bytes n p.0.1 next p.2)

list_behind : (bytes : List ℕ) (at next : ℕ) → list_end bytes at ≡ Some next → at < next
unfolding list_end
list_behind bytes at next h =
    let p = some_then (size_at bytes at) (λ read. skip_numbers bytes (numbers_behind read.0) read.1) next h in
    let is = (is_sleb bytes at).found p.0 (ok_of _ p.0 p.1) in
    omega (arith, is.behind, some_byte is.text is.stands.is.ends, skips_behind bytes (numbers_behind p.0.0) p.0.1 next p.2)

behind_low : (stop : Option ℕ) (more : ℕ → List ℕ) (o : ℕ) → ((next : ℕ) → stop ≡ Some next → list_any (λ a. a == o) (more next) ≡ false) → list_any (λ a. a == o) (lists_behind stop more) ≡ false
behind_low None more o h = refl
behind_low (Some next) more o h = h next refl

-- no list begins before the first of them
lists_low : (n : ℕ) (bytes : List ℕ) (at o : ℕ) → o < at → list_any (λ a. a == o) (lists_from n bytes at) ≡ false
lists_low zero bytes at o lt = refl
lists_low (suc n) bytes at o lt =
    let e : (at == o) ≡ false = ne_eqb at o (λ h. omega (arith, h, lt)) in
    ap (λ (b : Bool). b || list_any (λ a. a == o) (lists_behind (list_end bytes at) (λ next. lists_from n bytes next))) e
    ∙ behind_low (list_end bytes at) (λ next. lists_from n bytes next) o (λ next is. lists_low n bytes next o (omega (arith, lt, list_behind bytes at next is)))

or_none : (a : Bool) → (a || false) ≡ a
or_none true = refl
or_none false = refl

-- a loop has found these offsets, and comes to a list here
pub record Offsets (bytes : List ℕ) (found : List ℕ) (left at : ℕ) (all : List ℕ) : Type 0 where
  pub so_far : found ++ lists_from left bytes at ≡ all
  pub rise : RisesIn 0 at found
  pub low : RisesIn 0 65536 found

pub offsets_begin : (bytes found : List ℕ) (count at : ℕ) → found ≡ [] → Offsets bytes found count at (lists_from count bytes at)
offsets_begin bytes found count at e = rw e (record { so_far = refl; rise = tt; low = tt })

push_rises : (low high next : ℕ) (xs : List ℕ) → RisesIn low high xs → low ≤ high → high < next → RisesIn low next (xs ++ high ∷ [])
push_rises low high next [] r le lt = (le, lt, tt)
push_rises low high next (x ∷ xs) r le lt = (r.0, omega (arith, r.1, lt), push_rises (suc x) high next xs r.2 (omega (arith, r.1)) lt)

pub offsets_go_on : (bytes found longer : List ℕ) (left at next : ℕ) (all : List ℕ) → Offsets bytes found left at all → 0 < left → at < 65536 → longer ≡ found ++ at ∷ [] → list_end bytes at ≡ Some next → Offsets bytes longer (left - 1) next all
offsets_go_on bytes found longer zero at next all s lt small e is = absurd (omega (arith, lt))
offsets_go_on bytes found longer (suc left) at next all s lt small e is =
    let k : suc left - 1 ≡ left = omega arith in
    let one : lists_from (suc left) bytes at ≡ at ∷ lists_from left bytes next = ap (λ (o : Option ℕ). at ∷ lists_behind o (λ n. lists_from left bytes n)) is in
    rw (e, k) (record {
      so_far = append_assoc found (at ∷ []) (lists_from left bytes next) ∙ ap (λ (xs : List ℕ). found ++ xs) (sym one) ∙ s.so_far;
      rise = push_rises 0 at next found s.rise (omega arith) (list_behind bytes at next is);
      low = push_rises 0 at 65536 found s.rise (omega arith) small;
    })

-- what a loop ends with: each list up to the greatest offset that is asked for, and the offsets ascend
pub record Ends (most : ℕ) (found all : List ℕ) : Type 0 where
  pub same : (o : ℕ) → o ≤ most → list_any (λ a. a == o) found ≡ list_any (λ a. a == o) all
  pub rise : IsTrue (rises_in 0 65536 found)

pub offsets_pass : (bytes found : List ℕ) (left at most : ℕ) (all : List ℕ) → Offsets bytes found left at all → most < at → Ends most found all
offsets_pass bytes found left at most all s lt = record {
  same = λ o low. sym (sym (ap (λ (xs : List ℕ). list_any (λ a. a == o) xs) s.so_far) ∙ list_any-append (λ a. a == o) found (lists_from left bytes at)
      ∙ ap (λ (b : Bool). list_any (λ a. a == o) found || b) (lists_low left bytes at o (omega (arith, low, lt))) ∙ or_none (list_any (λ a. a == o) found));
  rise = risen 0 65536 found s.low;
}

pub offsets_stop : (bytes found longer : List ℕ) (left at most : ℕ) (all : List ℕ) → Offsets bytes found left at all → 0 < left → at < 65536 → longer ≡ found ++ at ∷ [] → list_end bytes at ≡ None → Ends most longer all
offsets_stop bytes found longer zero at most all s lt small e is = absurd (omega (arith, lt))
offsets_stop bytes found longer (suc left) at most all s lt small e is =
    let one : lists_from (suc left) bytes at ≡ at ∷ [] = ap (λ (o : Option ℕ). at ∷ lists_behind o (λ n. lists_from left bytes n)) is in
    let same : longer ≡ all = e ∙ ap (λ (xs : List ℕ). found ++ xs) (sym one) ∙ s.so_far in
    record {
      same = λ o low. ap (λ (xs : List ℕ). list_any (λ a. a == o) xs) same;
      rise = risen 0 65536 longer (subst (λ (xs : List ℕ). RisesIn 0 65536 xs) (sym e) (push_rises 0 at 65536 found s.rise (omega arith) small));
    }

pub offsets_end : (bytes found : List ℕ) (left at most : ℕ) (all : List ℕ) → Offsets bytes found left at all → left ≤ 0 → Ends most found all
offsets_end bytes found zero at most all s le = record {
  same = λ o low. ap (λ (xs : List ℕ). list_any (λ a. a == o) xs) (sym (append-nil found) ∙ s.so_far);
  rise = risen 0 65536 found s.low;
}
offsets_end bytes found (suc left) at most all s le = absurd (omega (arith, le))

-- ---- handlers

abbrev pub behind : List Handler → Option (List Handler × ℕ) → Option (List Handler × ℕ)
behind front read = read >?= λ r. Some (front ++ r.0, r.1)

abbrev both : List Handler → ℕ → Option (List Handler × ℕ)
both hs at = Some (hs, at)

regroup : (front : List Handler) (h : Handler) (read : Option (List Handler × ℕ)) → behind front (read >?= λ r. Some (h ∷ r.0, r.1)) ≡ behind (front ++ h ∷ []) read
regroup front h (Some r) = ap (λ (hs : List Handler). both hs r.1) (sym (append_assoc front (h ∷ []) r.0))
regroup front h None = refl

-- a loop has read these handlers, and comes to the next here
pub record Handles (bytes starts : List ℕ) (types : ℕ) (front : List Handler) (left at : ℕ) (total : Option (List Handler × ℕ)) : Type 0 where
  pub so_far : behind front (handlers_at bytes starts types left at) ≡ total

all_of : (read : Option (List Handler × ℕ)) → behind [] read ≡ read
all_of None = refl
all_of (Some r) = refl

pub handles_begin : (bytes starts : List ℕ) (types : ℕ) (front : List Handler) (count at : ℕ) → front ≡ [] → Handles bytes starts types front count at (handlers_at bytes starts types count at)
handles_begin bytes starts types front count at e = record { so_far = ap (λ (hs : List Handler). behind hs (handlers_at bytes starts types count at)) e ∙ all_of (handlers_at bytes starts types count at) }

pub handles_go_on : (bytes starts : List ℕ) (types : ℕ) (front longer : List Handler) (left at next : ℕ) (h : Handler) (total : Option (List Handler × ℕ)) → Handles bytes starts types front left at total
    → 0 < left → handler_at bytes starts types at ≡ Some (h, next) → longer ≡ front ++ h ∷ [] → Handles bytes starts types longer (left - 1) next total
handles_go_on bytes starts types front longer zero at next h total s lt is e = absurd (omega (arith, lt))
handles_go_on bytes starts types front longer (suc left) at next h total s lt is e =
    let k : suc left - 1 ≡ left = omega arith in
    let one : handlers_at bytes starts types (suc left) at ≡ (handlers_at bytes starts types left next >?= λ r. Some (h ∷ r.0, r.1)) =
    ap (λ (o : Option (Handler × ℕ)). o >?= λ h. handlers_at bytes starts types left h.1 >?= λ hs. Some (h.0 ∷ hs.0, hs.1)) is in
    rw (e, k) (record { so_far = sym (regroup front h (handlers_at bytes starts types left next)) ∙ ap (behind front) (sym one) ∙ s.so_far })

pub handles_stop : (bytes starts : List ℕ) (types : ℕ) (front : List Handler) (left at : ℕ) (total : Option (List Handler × ℕ)) → Handles bytes starts types front left at total
    → 0 < left → handler_at bytes starts types at ≡ None → total ≡ None
handles_stop bytes starts types front zero at total s lt is = absurd (omega (arith, lt))
handles_stop bytes starts types front (suc left) at total s lt is =
    let one : handlers_at bytes starts types (suc left) at ≡ None = ap (λ (o : Option (Handler × ℕ)). o >?= λ h. handlers_at bytes starts types left h.1 >?= λ hs. Some (h.0 ∷ hs.0, hs.1)) is in
    sym s.so_far ∙ ap (behind front) one

pub handles_end : (bytes starts : List ℕ) (types : ℕ) (front : List Handler) (left at : ℕ) (total : Option (List Handler × ℕ)) → Handles bytes starts types front left at total → left ≤ 0 → total ≡ Some (front, at)
handles_end bytes starts types front zero at total s le = sym s.so_far ∙ ap (λ (hs : List Handler). both hs at) (append-nil front)
handles_end bytes starts types front (suc left) at total s le = absurd (omega (arith, le))
