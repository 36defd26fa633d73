-- The numbers of the members that are read ascend.
use Rattle.std.proofs.Common.{◌≡◌, ◌⊎◌, ℕ, zero, suc, ◌+◌, ◌≤◌, ◌<◌, Bool, true, false, List, [], ◌∷◌, Result, Ok, Err, refl, sym, subst, ◌∙◌, inl, inr, arith, rules}
use Rattle.std.proofs.lemmas.Bool.{cases_lt}
use Rattle.dex_base.specs.Reading.{◌>>=◌}
use Rattle.dex_base.proofs.Decides.{ok_is}
use Rattle.dex_pools.specs.Run.{run}
use Rattle.program_model.specs.declared.program.Program.{Program}
use Rattle.dex_read.specs.declared.class_data.Listed.{Listed}
use Rattle.dex_read.specs.declared.fault.DexFault.{DexFault}
use Rattle.dex_read.specs.declared.members.Owner.{Owner}
use Rattle.dex_read.specs.Ascending.{Rises, Ascends}
use Rattle.dex_read.specs.ClassData.{flags_of, stepped_at, ascends_at, field_entry_at, method_entry_at, field_suits, method_suits, suits, field_at, method_at}
use Rattle.dex_read.specs.Tables.{sizes_in}
use Rattle.dex_read.specs.Word.{number_at}

-- what a reading behind another found
pub then_ok : {X Y F : Type 0} (read : Result X F) (f : X → Result Y F) (y : Y) → (read >>= f) ≡ Ok y → (x : X) × (read ≡ Ok x) × (f x ≡ Ok y)
then_ok (Ok x) f y h = (x, refl, h)
then_ok (Err e) f y h = absurd cc

abbrev Entry : Type 0
Entry = Listed × (ℕ × ℕ)

abbrev Reader : Type 0
Reader = ℕ → ℕ × ℕ → Result Entry DexFault

-- an entry is above the one before it, and hands its number on
pub record IsAbove (place before : ℕ) (e : Entry) : Type 0 where
  pub above : (place ≡ 0) ⊎ (before < e.0.number)
  pub number : e.1.1 ≡ e.0.number

abbrev KeepsOrder : Reader → Type 0
KeepsOrder f = (place at before : ℕ) (e : Entry) → f place (at, before) ≡ Ok e → IsAbove place before e

abbrev Read : Type 0
Read = List Listed × (ℕ × ℕ)

abbrev found : List Listed → ℕ × ℕ → Result Read DexFault
found es s = Ok (es, s)

pub rises : (f : Reader) → KeepsOrder f → (from n at before : ℕ) (r : Read) → run f from n (at, before) ≡ Ok r → Rises from before r.0
rises f keeps from zero at before r h = subst (λ (r : Read). Rises from before r.0) (ok_is ([], (at, before)) r h) tt
rises f keeps from (suc n) at before r h =
    let p = then_ok (f from (at, before)) (λ x. run f (suc from) n x.1 >>= λ xs. found (x.0 ∷ xs.0) xs.1) r h in
    let q = then_ok (run f (suc from) n p.0.1) (λ xs. found (p.0.0 ∷ xs.0) xs.1) r p.2 in
    let a = keeps from at before p.0 p.1 in
    let rest : Rises (suc from) p.0.0.number q.0.0 = subst (λ (n : ℕ). Rises (suc from) n q.0.0) a.number (rises f keeps (suc from) n p.0.1.0 p.0.1.1 q.0 q.1) in
    subst (λ (r : Read). Rises from before r.0) (ok_is (p.0.0 ∷ q.0.0, q.0.1) r q.2) (a.above, rest)

suits_ok : (fits : Bool) (owner : Owner) (place : ℕ) (x e : Entry) → suits fits owner place x ≡ Ok e → x ≡ e
suits_ok true owner place x e h = ok_is x e h
suits_ok false owner place x e h = absurd cc

order_ok : (place before number : ℕ) (u : Unit {0}) → ascends_at place before number ≡ Ok u → (place ≡ 0) ⊎ (before < number)
unfolding ascends_at
order_ok place before number u h = elim (cases_lt before number) [
  | inl lt ↦ inr lt
  | inr le ↦ inl (search (rules, arith))
]

abbrev entry : ℕ → ℕ → ℕ → ℕ → Entry
entry number flags code next = (record { number = number; flags = flags_of flags; code = code }, (next, number))

pub field_keeps : (bytes : List ℕ) (p : Program) (owner : Owner) (static : Bool) (earlier : List Listed) → KeepsOrder (field_at bytes p owner static earlier)
unfolding field_at field_entry_at
field_keeps bytes p owner static earlier place at before e h =
    let size = (sizes_in p).fields in
    let a = then_ok (field_entry_at bytes size place (at, before)) (λ x. suits (field_suits p owner.kind static earlier x.0) owner place x) e h in
    let n = then_ok (stepped_at bytes size before at) (λ number. number_at bytes number.1 >>= λ flags. ascends_at place before number.0 >>= λ _. Ok (entry number.0 flags.0 0 flags.1)) a.0 a.1 in
    let f = then_ok (number_at bytes n.0.1) (λ flags. ascends_at place before n.0.0 >>= λ _. Ok (entry n.0.0 flags.0 0 flags.1)) a.0 n.2 in
    let o = then_ok (ascends_at place before n.0.0) (λ _. Ok (entry n.0.0 f.0.0 0 f.0.1)) a.0 f.2 in
    let same : entry n.0.0 f.0.0 0 f.0.1 ≡ e = ok_is _ _ o.2 ∙ suits_ok (field_suits p owner.kind static earlier a.0.0) owner place a.0 e a.2 in
    subst (IsAbove place before) same (record { above = order_ok place before n.0.0 o.0 o.1; number = refl })

pub method_keeps : (bytes : List ℕ) (p : Program) (owner : Owner) (direct : Bool) (earlier : List Listed) → KeepsOrder (method_at bytes p owner direct earlier)
unfolding method_at method_entry_at
method_keeps bytes p owner direct earlier place at before e h =
    let size = (sizes_in p).methods in
    let a = then_ok (method_entry_at bytes size place (at, before)) (λ x. suits (method_suits p owner.kind direct earlier x.0) owner place x) e h in
    let n = then_ok (stepped_at bytes size before at) (λ number. number_at bytes number.1 >>= λ flags. number_at bytes flags.1 >>= λ code. ascends_at place before number.0 >>= λ _. Ok (entry number.0 flags.0 code.0 code.1)) a.0 a.1 in
    let f = then_ok (number_at bytes n.0.1) (λ flags. number_at bytes flags.1 >>= λ code. ascends_at place before n.0.0 >>= λ _. Ok (entry n.0.0 flags.0 code.0 code.1)) a.0 n.2 in
    let c = then_ok (number_at bytes f.0.1) (λ code. ascends_at place before n.0.0 >>= λ _. Ok (entry n.0.0 f.0.0 code.0 code.1)) a.0 f.2 in
    let o = then_ok (ascends_at place before n.0.0) (λ _. Ok (entry n.0.0 f.0.0 c.0.0 c.0.1)) a.0 c.2 in
    let same : entry n.0.0 f.0.0 c.0.0 c.0.1 ≡ e = ok_is _ _ o.2 ∙ suits_ok (method_suits p owner.kind direct earlier a.0.0) owner place a.0 e a.2 in
    subst (IsAbove place before) same (record { above = order_ok place before n.0.0 o.0 o.1; number = refl })

pub fields_ascend : (bytes : List ℕ) (p : Program) (owner : Owner) (static : Bool) (earlier : List Listed) (count at : ℕ) (es : List Listed) (s : ℕ × ℕ)
    → run (field_at bytes p owner static earlier) 0 count (at, 0) ≡ found es s → Ascends es
fields_ascend bytes p owner static earlier count at es s h =
    record { rises = rises (field_at bytes p owner static earlier) (field_keeps bytes p owner static earlier) 0 count at 0 (es, s) h }

pub methods_ascend : (bytes : List ℕ) (p : Program) (owner : Owner) (direct : Bool) (earlier : List Listed) (count at : ℕ) (es : List Listed) (s : ℕ × ℕ)
    → run (method_at bytes p owner direct earlier) 0 count (at, 0) ≡ found es s → Ascends es
methods_ascend bytes p owner direct earlier count at es s h =
    record { rises = rises (method_at bytes p owner direct earlier) (method_keeps bytes p owner direct earlier) 0 count at 0 (es, s) h }

pub none_ascends : Ascends []
none_ascends = record { rises = tt }
