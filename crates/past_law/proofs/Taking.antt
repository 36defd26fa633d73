-- How readings are put together that count what they read: what is left is handed along.
use Rattle.std.proofs.Common.{◌≡◌, ◌≤◌, ◌<◌, ℕ, zero, suc, ◌+◌, ◌-◌, Bool, true, false, cond, leb, List, [], ◌∷◌, Option, Some, None, Result, Ok, Err, refl, sym, ap, subst, ◌∙◌, arith}
use Rattle.std.proofs.lemmas.Bool.{leb-false}
use Rattle.dex_base.specs.Reading.{◌>>=◌, raise}
use Rattle.dex_base.proofs.Decides.{ok_is, err_is, not_both}
use Rattle.program_model.specs.declared.limits.Counted.{Counted}
use Rattle.program_model.specs.declared.limits.LimitFault.{LimitFault}
use Rattle.dex_pools.specs.declared.fault.PoolFault.{PoolFault}
use Rattle.dex_pools.specs.declared.fault.PoolFault.TheVariants as pool
use Rattle.dex_pools.specs.Items.{past, spend}
use Rattle.dex_pools.specs.Run.{run}
use Rattle.dex_read.specs.declared.fault.DexFault.{DexFault}
use Rattle.dex_read.specs.declared.fault.DexFault.TheVariants as dex
use Rattle.dex_read.specs.Faults.{of_pool}
use Rattle.dex_read.specs.Steps.{steps}
use Rattle.refused_law.proofs.Failing.{Fails}
use Rattle.past_law.specs.Told.{Told, one_past}
use Rattle.past_law.proofs.Told.{none, together, wider, other, fewer}

-- ---- the limit that a fault names

abbrev pub limit_of_pool : PoolFault → Option LimitFault
limit_of_pool (pool.Limit limit) = Some limit
limit_of_pool fault = None

abbrev pub limit_of_dex : DexFault → Option LimitFault
limit_of_dex (dex.Limit limit) = Some limit
limit_of_dex fault = None

pub same_limit : (e : PoolFault) → limit_of_dex (of_pool e) ≡ limit_of_pool e
same_limit pool.NoMemory = refl
same_limit (pool.Short at) = refl
same_limit (pool.LongLeb at) = refl
same_limit (pool.BadText at) = refl
same_limit (pool.BadDescriptor at) = refl
same_limit (pool.Index at value size) = refl
same_limit (pool.Order table place) = refl
same_limit (pool.BadValue at) = refl
same_limit (pool.Deep at) = refl
same_limit (pool.Shorty at) = refl
same_limit (pool.Limit limit) = refl

-- where a limit is named, it is that of this quantity, and so much is known
abbrev pub PastBy : Counted → Type 0 → Option LimitFault → Type 0
PastBy kind More None = Unit {0}
PastBy kind More (Some limit) = (limit ≡ one_past kind) × More

pub past_more : (kind : Counted) {More Most : Type 0} (o : Option LimitFault) → (More → Most) → PastBy kind More o → PastBy kind Most o
past_more kind None to h = tt
past_more kind (Some limit) to h = (h.0, to h.1)

-- a reading none of whose faults is that of a limit
abbrev pub Plain : {Y F : Type 0} → (F → Option LimitFault) → Result Y F → Type 0
Plain limit read = Fails (λ e. limit e ≡ None) read

-- A reading that takes from what is left as many things as it says, all of which are named in a way, and where it passes the
-- limit, one more than is left.
pub record Takes {Y F : Type 0} (limit : F → Option LimitFault) (kind : Counted) (Is In : List ℕ → Type 0) (left : ℕ) (behind : Y → ℕ) (read : Result Y F) : Type 0 where
  pub took : (y : Y) → read ≡ Ok y → Told Is In (left - behind y)
  pub passed : (e : F) → read ≡ Err e → PastBy kind (Told Is In (suc left)) (limit e)

-- ---- nothing is taken

pub takes_none : {Y F : Type 0} {limit : F → Option LimitFault} {kind : Counted} {Is In : List ℕ → Type 0} (left : ℕ) (behind : Y → ℕ) (y : Y) → left ≤ behind y → Takes limit kind Is In left behind (Ok y)
takes_none {F = F} left behind y less = record {
  took = λ z h. fewer (left - behind z) none (let same : behind y ≡ behind z = ap behind (ok_is {F = F} y z h) in omega (arith, less, same));
  passed = λ e h. absurd (not_both e y (sym h));
}

plain_past : (kind : Counted) (More : Type 0) (o : Option LimitFault) → o ≡ None → PastBy kind More o
plain_past kind More None h = tt
plain_past kind More (Some limit) h = absurd cc

pub takes_fault : {Y F : Type 0} {limit : F → Option LimitFault} {kind : Counted} {Is In : List ℕ → Type 0} {left : ℕ} {behind : Y → ℕ} (e : F) → limit e ≡ None → Takes limit kind Is In left behind (Err e)
takes_fault {Y = Y} {limit = limit} {kind = kind} e h = record {
  took = λ z g. absurd (not_both e z g);
  passed = λ k g. plain_past _ _ (limit k) (ap limit (sym (err_is {A = Y} e k g)) ∙ h);
}

-- ---- one reading behind another

pub plain_next : {X Y F : Type 0} {limit : F → Option LimitFault} {kind : Counted} {Is In : List ℕ → Type 0} {left : ℕ} {behind : Y → ℕ} {read : Result X F} {f : X → Result Y F} → Plain limit read
    → ((x : X) → read ≡ Ok x → Takes limit kind Is In left behind (f x)) → Takes limit kind Is In left behind (read >>= f)
plain_next {read = Ok x} d g = g x refl
plain_next {read = Err e} d g = takes_fault e (d.fault e refl)

both_taken : (left mid last : ℕ) → left - last ≤ (left - mid) + (mid - last)
both_taken left mid last = omega arith

both_passed : (left mid : ℕ) → suc left ≤ (left - mid) + suc mid
both_passed left mid = omega arith

pub takes_next : {X Y F : Type 0} {limit : F → Option LimitFault} {kind : Counted} {Is A B C : List ℕ → Type 0} {left : ℕ} {mid : X → ℕ} {behind : Y → ℕ} {read : Result X F} {f : X → Result Y F} → Takes limit kind Is A left mid read
    → ((x : X) → read ≡ Ok x → Takes limit kind Is B (mid x) behind (f x)) → ((w : List ℕ) → A w → B w → ⊥) → ((w : List ℕ) → A w → C w) → ((w : List ℕ) → B w → C w) → Takes limit kind Is C left behind (read >>= f)
takes_next {limit = limit} {left = left} {mid = mid} {behind = behind} {read = Ok x} d g apart first second = let t = g x refl in record {
  took = λ y h. fewer (left - behind y) (together (d.took x refl) (t.took y h) apart first second) (both_taken left (mid x) (behind y));
  passed = λ e h. past_more _ (limit e) (λ more. fewer (suc left) (together (d.took x refl) more apart first second) (both_passed left (mid x))) (t.passed e h);
}
takes_next {Y = Y} {limit = limit} {kind = kind} {Is = Is} {C = C} {left = left} {read = Err k} d g apart first second = record {
  took = λ y h. absurd (not_both k y h);
  passed = λ e h. subst (λ j. PastBy kind (Told Is C (suc left)) (limit j)) (err_is {A = Y} k e h) (past_more _ (limit k) (λ more. wider more first) (d.passed k refl));
}

-- what is read behind takes nothing
pub takes_then : {X Y F : Type 0} {limit : F → Option LimitFault} {kind : Counted} {Is A : List ℕ → Type 0} {left : ℕ} {mid : X → ℕ} {behind : Y → ℕ} {read : Result X F} {f : X → Result Y F} → Takes limit kind Is A left mid read
    → ((x : X) → read ≡ Ok x → Takes limit kind Is (λ w. ⊥) (mid x) behind (f x)) → Takes limit kind Is A left behind (read >>= f)
takes_then d g = takes_next d g (λ w a b. b) (λ w a. a) (λ w b. absurd b)

pub takes_wider : {Y F : Type 0} {limit : F → Option LimitFault} {kind : Counted} {Is A B : List ℕ → Type 0} {left : ℕ} {behind : Y → ℕ} {read : Result Y F} → Takes limit kind Is A left behind read → ((w : List ℕ) → A w → B w)
    → Takes limit kind Is B left behind read
takes_wider {limit = limit} d to = record { took = λ y h. wider (d.took y h) to; passed = λ e h. past_more _ (limit e) (λ more. wider more to) (d.passed e h) }

pub takes_other : {Y F : Type 0} {limit : F → Option LimitFault} {kind : Counted} {Is Are A : List ℕ → Type 0} {left : ℕ} {behind : Y → ℕ} {read : Result Y F} → Takes limit kind Is A left behind read → ((w : List ℕ) → Is w → Are w)
    → Takes limit kind Are A left behind read
takes_other {limit = limit} d to = record { took = λ y h. other (d.took y h) to; passed = λ e h. past_more _ (limit e) (λ more. other more to) (d.passed e h) }

-- ---- by a test

pub takes_unless : {Y F : Type 0} {limit : F → Option LimitFault} {kind : Counted} {Is In : List ℕ → Type 0} {left : ℕ} {behind : Y → ℕ} {b : Bool} {read : Result Y F} (e : F) → limit e ≡ None → (b ≡ true → Takes limit kind Is In left behind read)
    → Takes limit kind Is In left behind (cond b read (Err e))
takes_unless {b = true} e h g = g refl
takes_unless {b = false} e h g = takes_fault e h

pub takes_either : {Y F : Type 0} {limit : F → Option LimitFault} {kind : Counted} {Is In : List ℕ → Type 0} {left : ℕ} {behind : Y → ℕ} {b : Bool} {read more : Result Y F} → (b ≡ true → Takes limit kind Is In left behind read)
    → (b ≡ false → Takes limit kind Is In left behind more) → Takes limit kind Is In left behind (cond b read more)
takes_either {b = true} f g = f refl
takes_either {b = false} f g = g refl

pub takes_or : {Y F : Type 0} {limit : F → Option LimitFault} {kind : Counted} {Is In : List ℕ → Type 0} {left : ℕ} {behind : Y → ℕ} (b : Bool) (y : Y) (more : Result Y F) → left ≤ behind y → Takes limit kind Is In left behind more
    → Takes limit kind Is In left behind (cond b (Ok y) more)
takes_or {left = left} {behind = behind} true y more less d = takes_none left behind y less
takes_or false y more less d = d

-- ---- in the words of the file

pub takes_raised : {Y : Type 0} {kind : Counted} {Is In : List ℕ → Type 0} {left : ℕ} {behind : Y → ℕ} {read : Result Y PoolFault} → Takes limit_of_pool kind Is In left behind read → Takes limit_of_dex kind Is In left behind (raise of_pool read)
takes_raised {Y = Y} {read = Ok x} d = record { took = λ y h. d.took y (ap Ok (ok_is {F = DexFault} x y h)); passed = λ e h. absurd (not_both e x (sym h)) }
takes_raised {Y = Y} {kind = kind} {Is = Is} {In = In} {left = left} {read = Err k} d = record {
  took = λ y h. absurd (not_both (of_pool k) y h);
  passed = λ e h. subst (λ j. PastBy kind (Told Is In (suc left)) (limit_of_dex j)) (err_is {A = Y} (of_pool k) e h) (subst (PastBy kind (Told Is In (suc left))) (sym (same_limit k)) (d.passed k refl));
}

-- ---- so many are taken

pub takes_spend : {Is In : List ℕ → Type 0} (kind : Counted) (count left : ℕ) → Told Is In count → Takes limit_of_pool kind Is In left (λ y. y) (spend kind count left)
unfolding spend
takes_spend {Is = Is} {In = In} kind count left told = by_test (leb count left) refl
  where
    by_test : (b : Bool) → leb count left ≡ b → Takes limit_of_pool kind Is In left (λ y. y) (cond b (Ok (left - count)) (Err (past kind)))
    by_test true e = record {
      took = λ y h. fewer (left - y) told (let same : left - count ≡ y = ok_is {F = PoolFault} (left - count) y h in omega (arith, same));
      passed = λ k h. absurd (not_both k (left - count) (sym h));
    }
    by_test false e = record {
      took = λ y h. absurd (not_both (past kind) y h);
      passed = λ k h. subst (λ j. PastBy kind (Told Is In (suc left)) (limit_of_pool j)) (err_is {A = ℕ} (past kind) k h) (refl, fewer (suc left) told (let more = leb-false count left e in omega (arith, more)));
    }

-- ---- one entry behind another

-- a name of one of the parts from one on
pub record OneOf (In : ℕ → List ℕ → Type 0) (from total : ℕ) (w : List ℕ) : Type 0 where
  pub place : ℕ
  pub low : from ≤ place
  pub high : place < total
  pub is : In place w

pub one_first : {In : ℕ → List ℕ → Type 0} (from total : ℕ) → from < total → (w : List ℕ) → In from w → OneOf In from total w
one_first from total less w h = record { place = from; low = omega arith; high = less; is = h }

pub one_later : {In : ℕ → List ℕ → Type 0} (from total : ℕ) → (w : List ℕ) → OneOf In (suc from) total w → OneOf In from total w
one_later from total w h = record { place = h.place; low = let low = h.low in omega (arith, low); high = h.high; is = h.is }

pub one_apart : {In : ℕ → List ℕ → Type 0} → ((i j : ℕ) (w : List ℕ) → In i w → In j w → i ≡ j) → (from total : ℕ) (w : List ℕ) → In from w → OneOf In (suc from) total w → ⊥
one_apart apart from total w h g = let same = apart from g.place w h g.is in let low = g.low in omega (arith, same, low)

module _ {F : Type 0} {limit : F → Option LimitFault} {kind : Counted} {Is : List ℕ → Type 0} (In : ℕ → List ℕ → Type 0) (apart : (i j : ℕ) (w : List ℕ) → In i w → In j w → i ≡ j) where
  -- entries that hand on what is left
  pub takes_run : {X S : Type 0} (f : ℕ → S → Result (X × S) F) (left : S → ℕ) (Good : ℕ → S → Type 0) → ((i : ℕ) (s : S) (x : X × S) → Good i s → f i s ≡ Ok x → Good (suc i) x.1) → (total : ℕ)
      → ((i : ℕ) (s : S) → i < total → Good i s → Takes limit kind Is (In i) (left s) (λ (x : X × S). left x.1) (f i s))
      → (from n : ℕ) (s : S) → from + n ≡ total → Good from s → Takes limit kind Is (OneOf In from total) (left s) (λ (r : List X × S). left r.1) (run f from n s)
  takes_run f left Good more total each from zero s all good = takes_none (left s) _ ([], s) (omega arith)
  takes_run {X = X} {S = S} f left Good more total each from (suc n) s all good =
      takes_next (each from s (omega (arith, all)) good)
      (λ x h. takes_then (takes_run f left Good more total each (suc from) n x.1 (omega (arith, all)) (more from s x good h)) (λ xs _. takes_none (left xs.1) _ (x.0 ∷ xs.0, xs.1) (omega arith)))
      (one_apart apart from total) (one_first from total (omega (arith, all))) (one_later from total)

  pub takes_steps : {S : Type 0} (f : ℕ → S → Result S F) (left : S → ℕ) (Good : ℕ → S → Type 0) → ((i : ℕ) (s t : S) → Good i s → f i s ≡ Ok t → Good (suc i) t) → (total : ℕ)
      → ((i : ℕ) (s : S) → i < total → Good i s → Takes limit kind Is (In i) (left s) left (f i s))
      → (from n : ℕ) (s : S) → from + n ≡ total → Good from s → Takes limit kind Is (OneOf In from total) (left s) left (steps f from n s)
  takes_steps f left Good more total each from zero s all good = takes_none (left s) left s (omega arith)
  takes_steps f left Good more total each from (suc n) s all good =
      takes_next (each from s (omega (arith, all)) good)
      (λ t h. takes_steps f left Good more total each (suc from) n t (omega (arith, all)) (more from s t good h))
      (one_apart apart from total) (one_first from total (omega (arith, all))) (one_later from total)
