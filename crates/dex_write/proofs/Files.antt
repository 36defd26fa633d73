-- What a result of the writer is.
use Rattle.std.specs.Prelude.{Vec, Result, Ok, Err, IfOk}
use Rattle.std.specs.declared.alloc.Global.{Global}
use Rattle.std.specs.declared.alloc.AllocError.{AllocError}
use Rattle.std.proofs.Common.{◌≡◌, ℕ, List, [], ◌∷◌, ◌++◌, sym, ap, subst, ◌∙◌, append-nil, ◌+◌, ◌<◌, ◌^◌, length, take, get_or}
use Rattle.dex_write.proofs.TakeLemmas.{take_one}
use Rattle.std.specs.List.{flat_map}
use Rattle.std.proofs.lemmas.List.Concat.{flat_map-append}
use Rattle.dex_pools.specs.declared.interner.Interner.{Interner}
use Rattle.dex_pools.specs.Interned.{IsInterned}
use Rattle.program_model.specs.declared.pass.Renumber.{Renumber}
use Rattle.program_model.specs.declared.program.Class.{Class}
use Rattle.program_model.specs.declared.program.Program.{Program}
use Rattle.widths.specs.Widths.{IsInWidth}
use Rattle.dex_write.specs.File.{IsSealed}
use Rattle.dex_write.specs.Plans.{Plan}
use Rattle.dex_write.specs.Codes.{IsPlan}
use Rattle.dex_write.specs.Order.{IsOrder, classes_at}
use Rattle.dex_write.specs.Places.{file_for}
use Rattle.dex_write.specs.Written.{ArePlans, MorePlans, IsWritten, IsWrittenBy}

pub ok_is_written_by : (p : Program) (i : Interner) (places : List ℕ) (plans : List Plan) (r : Result (Vec ℕ Global) AllocError) → IsOrder p places → ArePlans p i.numbers (flat_map (classes_at p) places) plans
    → IfOk r (λ v. v.items ≡ file_for p i plans) → IfOk r (λ v. IsSealed p.version v.items) → IfOk r (λ v. length v.items < 2 ^ 32) → IfOk r (λ v. IsWrittenBy p i v.items)
ok_is_written_by p i places plans (Ok v) o a f s few = record { places = places; ordered = o; plans = plans; planned = a; file = f; sealed = s; few = few }
ok_is_written_by p i places plans (Err x) o a f s few = tt

pub ok_is_written : (p : Program) (i : Interner) (r : Result (Vec ℕ Global) AllocError) → IsInterned p i → IsInWidth p → IfOk r (λ v. IsWrittenBy p i v.items) → IfOk r (λ v. IsWritten p v.items)
ok_is_written p i (Ok v) n wide w =
    record { interner = i; interned = n; places = w.places; ordered = w.ordered; plans = w.plans; planned = w.planned; file = w.file; sealed = w.sealed; few = w.few; wide = wide }
ok_is_written p i (Err x) n wide w = tt

pub ok_is_sealed : (p : Program) (i : Interner) (r : Result (Vec ℕ Global) AllocError) → IfOk r (λ v. IsWrittenBy p i v.items) → IfOk r (λ v. IsSealed p.version v.items)
ok_is_sealed p i (Ok v) w = w.sealed
ok_is_sealed p i (Err x) w = tt

both_planned : (p : Program) (r : Renumber) (cs ds : List Class) (xs ys : List Plan) → ArePlans p r cs xs → ArePlans p r ds ys → ArePlans p r (cs ++ ds) (xs ++ ys)
both_planned p r [] ds [] ys h k = k
both_planned p r [] ds (x ∷ xs) ys h k = absurd h
both_planned p r (c ∷ cs) ds [] ys h k = absurd h
both_planned p r (c ∷ cs) ds (x ∷ xs) ys h k = (h.0, both_planned p r cs ds xs ys h.1 k)

pub more_planned : (p : Program) (r : Renumber) (f : ℕ → List Class) (places : List ℕ) (place : ℕ) (old new : List Plan) → ArePlans p r (flat_map f places) old → MorePlans p r (f place) old new → ArePlans p r (flat_map f (places ++ place ∷ [])) new
more_planned p r f places place old new h m =
    let whole : flat_map f (places ++ place ∷ []) ≡ flat_map f places ++ f place = flat_map-append f places (place ∷ []) ∙ ap (λ (l : List Class). flat_map f places ++ l) (append-nil (f place)) in
    rw (whole, m.is) (both_planned p r (flat_map f places) (f place) old m.plans h m.planned)

pub one_planned : (p : Program) (r : Renumber) (c : Class) (plan : Plan) (old new : List Plan) → new ≡ old ++ plan ∷ [] → IsPlan p r c plan → MorePlans p r (c ∷ []) old new
one_planned p r c plan old new e h = record { plans = plan ∷ []; is = e; planned = (h, tt) }

pub none_planned : (p : Program) (r : Renumber) (old new : List Plan) → new ≡ old → MorePlans p r [] old new
none_planned p r old new e = record { plans = []; is = e ∙ sym (append-nil old); planned = tt }

pub planned_take : (p : Program) (r : Renumber) (f : ℕ → List Class) (places : List ℕ) (i place : ℕ) (old new : List Plan) → i < length places → place ≡ get_or places i place
    → ArePlans p r (flat_map f (take i places)) old → MorePlans p r (f place) old new → ArePlans p r (flat_map f (take (i + 1) places)) new
planned_take p r f places i place old new lt is h m = subst (λ l. ArePlans p r (flat_map f l) new) (sym (take_one places i place lt is)) (more_planned p r f (take i places) place old new h m)
