-- What is read keeps its limits.
use Rattle.std.proofs.Common.{◌≡◌, ◌^◌, ℕ, ◌≤◌, ◌<◌, Bool, true, false, cond, length, List, [], Result, Ok, Err, leb, refl, sym, ap, subst, ◌∙◌, arith}
use Rattle.std.proofs.lemmas.Bool.{leb-true}
use Rattle.dex_base.specs.Reading.{◌>>=◌, raise}
use Rattle.dex_base.specs.Word.{Is32, u32_at}
use Rattle.dex_base.proofs.Decides.{ok_is}
use Rattle.dex_base.proofs.Words.{is_32}
use Rattle.program_model.specs.Limits.{limit_of}
use Rattle.program_model.specs.declared.limits.Counted.{Counted}
use Rattle.program_model.specs.declared.limits.Counted.TheVariants.{Types, Protos, Fields, Methods}
use Rattle.program_model.specs.declared.program.Class.{Class}
use Rattle.program_model.specs.declared.program.Program.{Program}
use Rattle.program_model.specs.declared.program.Version.{Version}
use Rattle.dex_pools.specs.declared.fault.PoolFault.{PoolFault}
use Rattle.dex_pools.specs.declared.pools.Pools.{Pools}
use Rattle.dex_pools.specs.PoolTables.{pools_at}
use Rattle.dex_pools.specs.Spelled.{SpellsPools}
use Rattle.dex_pools.proofs.PoolReading.{found}
use Rattle.dex_read.specs.declared.fault.DexFault.{DexFault}
use Rattle.dex_read.specs.Faults.{of_base, of_pool}
use Rattle.dex_read.specs.File.{head_at, tables_with, tables_at}
use Rattle.dex_read.specs.Header.{need_at, past, version_at, fixed_at, sum_at, size_at, header_at}
use Rattle.dex_read.specs.Kept.{KeepsLimits}
use Rattle.dex_read.specs.Word.{word_at}
use Rattle.dex_read.proofs.Rising.{then_ok}

abbrev tt_if : Bool → DexFault → Result (Unit {0}) DexFault
tt_if b fault = cond b (Ok tt) (Err fault)

is_within : (b : Bool) (fault : DexFault) (u : Unit {0}) → tt_if b fault ≡ Ok u → b ≡ true
is_within true fault u h = refl
is_within false fault u h = absurd cc

-- a table keeps its limit, whatever its size is said to be
sized : (bytes : List ℕ) (at : ℕ) (counted : Counted) (u : Unit {0}) (n : ℕ) → size_at bytes at counted ≡ Ok u → Is32 bytes at n → n ≤ limit_of counted
unfolding size_at
sized bytes at counted u n h is =
    let p = then_ok (word_at bytes at) (λ m. tt_if (leb m (limit_of counted)) (past counted)) u h in
    let same : p.0 ≡ n = ok_is {F = DexFault} p.0 n (sym p.1 ∙ ap (raise of_base) ((is_32 bytes at).again n is)) in
    subst (λ k. k ≤ limit_of counted) same (leb-true _ _ (is_within (leb p.0 (limit_of counted)) (past counted) u p.2))

-- the four tables keep theirs
record Sized (bytes : List ℕ) : Type 0 where
  pub types : size_at bytes 64 Types ≡ Ok tt
  pub protos : size_at bytes 72 Protos ≡ Ok tt
  pub fields : size_at bytes 80 Fields ≡ Ok tt
  pub methods : size_at bytes 88 Methods ≡ Ok tt

abbrev Step : Type 0
Step = Result (Unit {0}) DexFault

last_four : (a b c d : Step) (v w : Version) → (a >>= λ _. b >>= λ _. c >>= λ _. d >>= λ _. Ok v) ≡ Ok w → (a ≡ Ok tt) × (b ≡ Ok tt) × (c ≡ Ok tt) × (d ≡ Ok tt)
last_four (Ok a) (Ok b) (Ok c) (Ok d) v w h = (refl, refl, refl, refl)
last_four (Ok a) (Ok b) (Ok c) (Err e) v w h = absurd cc
last_four (Ok a) (Ok b) (Err e) d v w h = absurd cc
last_four (Ok a) (Err e) c d v w h = absurd cc
last_four (Err e) b c d v w h = absurd cc

behind_seven : {X : Type 0} (a b c d e f : Step) (g : Result Version DexFault) (rest : Version → Result X DexFault) (x : X)
    → (a >>= λ _. g >>= λ v. b >>= λ _. c >>= λ _. d >>= λ _. e >>= λ _. f >>= λ _. rest v) ≡ Ok x → (v : Version) × (rest v ≡ Ok x)
behind_seven (Ok a) (Ok b) (Ok c) (Ok d) (Ok e) (Ok f) (Ok v) rest x h = (v, h)
behind_seven (Ok a) (Ok b) (Ok c) (Ok d) (Ok e) (Err z) (Ok v) rest x h = absurd cc
behind_seven (Ok a) (Ok b) (Ok c) (Ok d) (Err z) f (Ok v) rest x h = absurd cc
behind_seven (Ok a) (Ok b) (Ok c) (Err z) e f (Ok v) rest x h = absurd cc
behind_seven (Ok a) (Ok b) (Err z) d e f (Ok v) rest x h = absurd cc
behind_seven (Ok a) (Err z) c d e f (Ok v) rest x h = absurd cc
behind_seven (Ok a) b c d e f (Err z) rest x h = absurd cc
behind_seven (Err z) b c d e f g rest x h = absurd cc

all_sized : (bytes : List ℕ) (v : Version) → header_at bytes ≡ Ok v → Sized bytes
unfolding header_at
all_sized bytes v h =
    let types = size_at bytes 64 Types in
    let protos = size_at bytes 72 Protos in
    let fields = size_at bytes 80 Fields in
    let methods = size_at bytes 88 Methods in
    let p = behind_seven (need_at bytes 0 112) (fixed_at bytes 32 (length bytes)) (fixed_at bytes 36 112) (fixed_at bytes 40 0x12345678) (fixed_at bytes 44 0) (sum_at bytes) (version_at bytes)
    (λ w. types >>= λ _. protos >>= λ _. fields >>= λ _. methods >>= λ _. Ok w) v h in
    let q = last_four types protos fields methods p.0 v p.1 in
    record { types = q.0; protos = q.1; fields = q.2; methods = q.3 }

lowered : (read : Result (Pools × ℕ) PoolFault) (x : Pools × ℕ) → raise of_pool read ≡ Ok x → read ≡ Ok x
lowered (Ok y) x h = ap Ok (ok_is y x h)
lowered (Err e) x h = absurd cc

keeps_behind : (bytes : List ℕ) (v : Version) (t : Program × ℕ) (classes : List Class) → header_at bytes ≡ Ok v → tables_at bytes v ≡ Ok t → length classes < 2 ^ 32
    → KeepsLimits (record t.0 { classes = classes })
unfolding tables_at
keeps_behind bytes v t classes h g few =
    let s = all_sized bytes v h in
    let p = then_ok (raise of_pool (pools_at bytes 16777216)) (λ pools. Ok (tables_with v pools.0, pools.1)) t g in
    let spells : SpellsPools bytes 16777216 p.0.0 = found bytes 16777216 (Ok p.0.0) p.0.1 (lowered (pools_at bytes 16777216) p.0 p.1) in
    let same : (tables_with v p.0.0, p.0.1) ≡ t = ok_is _ _ p.2 in
    subst (λ (r : Program × ℕ). KeepsLimits (record r.0 { classes = classes })) same (record {
      types = omega (arith, spells.types.0, sized bytes 64 Types tt spells.tables.types.size s.types spells.stand.types.size);
      protos = omega (arith, spells.protos.0, sized bytes 72 Protos tt spells.tables.protos.size s.protos spells.stand.protos.size);
      fields = omega (arith, spells.fields.0, sized bytes 80 Fields tt spells.tables.fields.size s.fields spells.stand.fields.size);
      methods = omega (arith, spells.methods.0, sized bytes 88 Methods tt spells.tables.methods.size s.methods spells.stand.methods.size);
      classes = few;
    })

pub keeps : (bytes : List ℕ) (tables : Program) (left : ℕ) (classes : List Class) → head_at bytes ≡ Ok (tables, left) → length classes < 2 ^ 32
    → KeepsLimits (record tables { classes = classes })
unfolding head_at
keeps bytes tables left classes h few =
    let p = then_ok (header_at bytes) (λ v. tables_at bytes v) (tables, left) h in
    keeps_behind bytes p.0 (tables, left) classes p.1 p.2 few
