-- How readings are put together that take from a budget of items and cells.
use Rattle.std.proofs.Common.{◌≡◌, ◌≤◌, ◌<◌, inl, inr, ℕ, zero, suc, ◌+◌, ◌-◌, Bool, true, false, cond, List, [], ◌∷◌, Option, Some, None, Result, Ok, Err, refl, sym, ap, subst, ◌∙◌, arith}
use Rattle.dex_base.specs.Reading.{◌>>=◌}
use Rattle.dex_base.proofs.Decides.{ok_is, err_is, not_both}
use Rattle.program_model.specs.Limits.{limit_of}
use Rattle.program_model.specs.declared.limits.Counted.TheVariants.{Cells, Items}
use Rattle.program_model.specs.declared.limits.LimitFault.{LimitFault}
use Rattle.dex_pools.specs.Run.{run}
use Rattle.dex_defs.specs.Limits.{IsItem}
use Rattle.dex_read.specs.declared.fault.DexFault.{DexFault}
use Rattle.dex_read.specs.declared.fault.DexFault.TheVariants as dex
use Rattle.dex_read.specs.declared.members.Budget.{Budget}
use Rattle.past_law.specs.Code.{Took, PassesBudget, OnPast}
use Rattle.past_law.specs.Told.{Told}
use Rattle.past_law.proofs.Taking.{limit_of_dex, PastBy, Plain, Takes, OneOf, one_first, one_later, one_apart}
use Rattle.past_law.proofs.Told.{none, together, wider, fewer}

-- ---- what is said where a limit is named

abbrev pub On : (LimitFault → Type 0) → Option LimitFault → Type 0
On Says None = Unit {0}
On Says (Some fault) = Says fault

pub on_more : (Says More : LimitFault → Type 0) (o : Option LimitFault) → ((fault : LimitFault) → Says fault → More fault) → On Says o → On More o
on_more Says More None to h = tt
on_more Says More (Some fault) to h = to fault h

pub on_none : (Says : LimitFault → Type 0) (o : Option LimitFault) → o ≡ None → On Says o
on_none Says None h = tt
on_none Says (Some fault) h = absurd cc

pub on_of : (Says : LimitFault → Type 0) (e : DexFault) → OnPast Says e → On Says (limit_of_dex e)
on_of Says dex.NoMemory h = tt
on_of Says (dex.Short at) h = tt
on_of Says dex.Magic h = tt
on_of Says (dex.Header at) h = tt
on_of Says (dex.Checksum stored computed) h = tt
on_of Says (dex.Pool fault) h = tt
on_of Says (dex.Code method fault) h = tt
on_of Says (dex.Member class place) h = tt
on_of Says (dex.Root class) h = tt
on_of Says (dex.FrameSize method) h = tt
on_of Says (dex.Limit limit) h = h

-- ---- readings

pub record Spends {Y : Type 0} (bytes : List ℕ) (In Ce : List ℕ → Type 0) (before : Budget) (behind : Y → Budget) (read : Result Y DexFault) : Type 0 where
  pub took : (y : Y) → read ≡ Ok y → Took bytes In Ce before (behind y)
  pub passed : (e : DexFault) → read ≡ Err e → On (PassesBudget bytes In Ce before) (limit_of_dex e)

-- names of items, and of cells, of two readings
pub record AreBoth (A B C : List ℕ → Type 0) : Type 0 where
  pub apart : (w : List ℕ) → A w → B w → ⊥
  pub first : (w : List ℕ) → A w → C w
  pub later : (w : List ℕ) → B w → C w

no_cells : {E : List ℕ → Type 0} → AreBoth (λ w. ⊥) E E
no_cells = record { apart = λ w a b. a; first = λ w a. absurd a; later = λ w b. b }

nothing_after : {A : List ℕ → Type 0} → AreBoth A (λ w. ⊥) A
nothing_after = record { apart = λ w a b. b; first = λ w a. a; later = λ w b. absurd b }

module _ {bytes : List ℕ} where
  pub spends_none : {Y : Type 0} {In Ce : List ℕ → Type 0} (before : Budget) (behind : Y → Budget) (y : Y) → before.items ≤ (behind y).items → (behind y).cells ≤ before.cells → Spends bytes In Ce before behind (Ok y)
  spends_none before behind y items cells = record {
    took = λ z h. let same : behind y ≡ behind z = ap behind (ok_is {F = DexFault} y z h) in
        let same_items = ap (λ (b : Budget). b.items) same in let same_cells = ap (λ (b : Budget). b.cells) same in
        record { items = fewer (before.items - (behind z).items) none (omega (arith, items, same_items)); cells = fewer ((behind z).cells - before.cells) none (omega (arith, cells, same_cells)) };
    passed = λ e h. absurd (not_both e y (sym h));
  }

  spends_fault : {Y : Type 0} {In Ce : List ℕ → Type 0} {before : Budget} {behind : Y → Budget} (e : DexFault) → limit_of_dex e ≡ None → Spends bytes In Ce before behind (Err e)
  spends_fault {Y = Y} {In = In} {Ce = Ce} {before = before} e h = record {
    took = λ z g. absurd (not_both e z g);
    passed = λ k g. on_none (PassesBudget bytes In Ce before) (limit_of_dex k) (ap limit_of_dex (sym (err_is {A = Y} e k g)) ∙ h);
  }

  pub plain_spends : {X Y : Type 0} {In Ce : List ℕ → Type 0} {before : Budget} {behind : Y → Budget} {read : Result X DexFault} {f : X → Result Y DexFault} → Plain limit_of_dex read
      → ((x : X) → read ≡ Ok x → Spends bytes In Ce before behind (f x)) → Spends bytes In Ce before behind (read >>= f)
  plain_spends {read = Ok x} d g = g x refl
  plain_spends {read = Err e} d g = spends_fault e (d.fault e refl)

  -- what a reading takes of the items alone
  pub spends_of : {Y : Type 0} {In Ce : List ℕ → Type 0} (before : Budget) (left : Y → ℕ) {read : Result Y DexFault} → Takes limit_of_dex Items (IsItem bytes) In before.items left read
      → Spends bytes In Ce before (λ y. record { items = left y; cells = before.cells }) read
  spends_of {In = In} {Ce = Ce} before left d = record {
    took = λ y h. record { items = d.took y h; cells = fewer (before.cells - before.cells) none (omega arith) };
    passed = λ e h. by_limit (limit_of_dex e) (d.passed e h);
  }
    where
      by_limit : (o : Option LimitFault) → PastBy Items (Told (IsItem bytes) In (suc before.items)) o → On (PassesBudget bytes In Ce before) o
      by_limit None h = tt
      by_limit (Some fault) h = inl h

  passes_first : {A B C D E F : List ℕ → Type 0} (before : Budget) (fault : LimitFault) → AreBoth A B C → AreBoth D E F → PassesBudget bytes A D before fault → PassesBudget bytes C F before fault
  passes_first before fault items cells (inl h) = inl (h.0, wider h.1 items.first)
  passes_first before fault items cells (inr h) = inr (h.0, wider h.1 cells.first)

  passes_later : {A B C D E F : List ℕ → Type 0} (before mid : Budget) (fault : LimitFault) → AreBoth A B C → AreBoth D E F → Took bytes A D before mid → PassesBudget bytes B E mid fault → PassesBudget bytes C F before fault
  passes_later before mid fault items cells took (inl h) = inl (h.0, fewer (suc before.items) (together took.items h.1 items.apart items.first items.later) (omega arith))
  passes_later before mid fault items cells took (inr h) = inr (h.0, fewer (suc (limit_of Cells) - before.cells) (together took.cells h.1 cells.apart cells.first cells.later) (omega arith))

  pub spends_next : {X Y : Type 0} {A B C D E F : List ℕ → Type 0} {before : Budget} {mid : X → Budget} {behind : Y → Budget} {read : Result X DexFault} {f : X → Result Y DexFault} → AreBoth A B C → AreBoth D E F
      → Spends bytes A D before mid read → ((x : X) → read ≡ Ok x → Spends bytes B E (mid x) behind (f x)) → Spends bytes C F before behind (read >>= f)
  spends_next {B = B} {C = C} {E = E} {F = F} {before = before} {mid = mid} {behind = behind} {read = Ok x} items cells d g = let t = g x refl in let first = d.took x refl in record {
    took = λ y h. let last = t.took y h in record {
      items = fewer (before.items - (behind y).items) (together first.items last.items items.apart items.first items.later) (omega arith);
      cells = fewer ((behind y).cells - before.cells) (together first.cells last.cells cells.apart cells.first cells.later) (omega arith);
    };
    passed = λ e h. on_more (PassesBudget bytes B E (mid x)) (PassesBudget bytes C F before) (limit_of_dex e) (λ fault more. passes_later before (mid x) fault items cells first more) (t.passed e h);
  }
  spends_next {Y = Y} {A = A} {C = C} {D = D} {F = F} {before = before} {read = Err k} items cells d g = record {
    took = λ y h. absurd (not_both k y h);
    passed = λ e h. subst (λ j. On (PassesBudget bytes C F before) (limit_of_dex j)) (err_is {A = Y} k e h)
        (on_more (PassesBudget bytes A D before) (PassesBudget bytes C F before) (limit_of_dex k) (λ fault more. passes_first before fault items cells more) (d.passed k refl));
  }

  -- items alone are taken first
  pub spends_after : {X Y : Type 0} {A B C E : List ℕ → Type 0} (before : Budget) (left : X → ℕ) {behind : Y → Budget} {read : Result X DexFault} {f : X → Result Y DexFault} → AreBoth A B C → Takes limit_of_dex Items (IsItem bytes) A before.items left read
      → ((x : X) → read ≡ Ok x → Spends bytes B E (record { items = left x; cells = before.cells }) behind (f x)) → Spends bytes C E before behind (read >>= f)
  spends_after before left both d g = spends_next both no_cells (spends_of before left d) g

  -- what is read behind takes nothing
  pub spends_then : {X Y : Type 0} {A D : List ℕ → Type 0} {before : Budget} {mid : X → Budget} {behind : Y → Budget} {read : Result X DexFault} {f : X → Result Y DexFault} → Spends bytes A D before mid read
      → ((x : X) → read ≡ Ok x → Spends bytes (λ w. ⊥) (λ w. ⊥) (mid x) behind (f x)) → Spends bytes A D before behind (read >>= f)
  spends_then d g = spends_next nothing_after nothing_after d g

  pub spends_either : {Y : Type 0} {In Ce : List ℕ → Type 0} {before : Budget} {behind : Y → Budget} {b : Bool} {read more : Result Y DexFault} → (b ≡ true → Spends bytes In Ce before behind read) → (b ≡ false → Spends bytes In Ce before behind more)
      → Spends bytes In Ce before behind (cond b read more)
  spends_either {b = true} f g = f refl
  spends_either {b = false} f g = g refl

  -- entries one behind another
  pub spends_run : {X : Type 0} (In Ce : ℕ → List ℕ → Type 0) → ((i j : ℕ) (w : List ℕ) → In i w → In j w → i ≡ j) → ((i j : ℕ) (w : List ℕ) → Ce i w → Ce j w → i ≡ j) → (f : ℕ → Budget → Result (X × Budget) DexFault) (total : ℕ)
      → ((i : ℕ) (b : Budget) → i < total → Spends bytes (In i) (Ce i) b (λ (r : X × Budget). r.1) (f i b)) → (from n : ℕ) (b : Budget) → from + n ≡ total
      → Spends bytes (OneOf In from total) (OneOf Ce from total) b (λ (r : List X × Budget). r.1) (run f from n b)
  spends_run In Ce items cells f total each from zero b all = spends_none b _ ([], b) (omega arith) (omega arith)
  spends_run In Ce items cells f total each from (suc n) b all = spends_next
      (record { apart = one_apart items from total; first = one_first from total (omega (arith, all)); later = one_later from total })
      (record { apart = one_apart cells from total; first = one_first from total (omega (arith, all)); later = one_later from total })
      (each from b (omega (arith, all))) (λ x _. spends_then (spends_run In Ce items cells f total each (suc from) n x.1 (omega (arith, all))) (λ xs _. spends_none xs.1 _ (x.0 ∷ xs.0, xs.1) (omega arith) (omega arith)))
