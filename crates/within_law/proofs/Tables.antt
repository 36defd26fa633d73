-- The tables of a file that is read pass no limit.
use Rattle.std.proofs.Common.{◌≡◌, ◌≤◌, ◌<◌, ℕ, ◌+◌, ◌*◌, leb, List, [], ◌∷◌, length, Ok, refl, sym, ap, subst, ◌∙◌, arith}
use Rattle.std.specs.Prelude.{slice_index}
use Rattle.std.proofs.lemmas.Bool.{leb-true}
use Rattle.dex_base.specs.Leb.{IsUlebAt}
use Rattle.dex_base.specs.Mutf8.{text_at}
use Rattle.dex_base.specs.Reading.{raise}
use Rattle.dex_base.specs.Word.{Is32}
use Rattle.dex_base.proofs.Decides.{ok_is}
use Rattle.program_model.specs.Limits.{limit_of}
use Rattle.program_model.specs.declared.limits.Counted.{Counted}
use Rattle.program_model.specs.declared.limits.Counted.TheVariants.{Types, Protos, Fields, Methods, TextUnits}
use Rattle.program_model.specs.declared.program.Program.{Program}
use Rattle.dex_pools.specs.declared.fault.PoolFault.{PoolFault}
use Rattle.dex_pools.specs.declared.header.Extents.{Extents}
use Rattle.dex_pools.specs.declared.pools.Pools.{Pools}
use Rattle.dex_pools.specs.Items.{spend}
use Rattle.dex_pools.specs.PoolTables.{strings_at, pools_at}
use Rattle.dex_pools.specs.Run.{run}
use Rattle.dex_pools.specs.Spelled.{AreExtents, IsBegin}
use Rattle.dex_pools.specs.Tables.{extents_at, begin_of, string_at}
use Rattle.dex_pools.specs.Fault.{of_base}
use Rattle.dex_pools.proofs.Fields.{finds_begin, finds_extents}
use Rattle.dex_defs.specs.Limits.{Counts}
use Rattle.dex_defs.specs.Limits as limits
use Rattle.dex_defs.specs.Placed.{HasSize}
use Rattle.dex_defs.specs.Places.{IsEntryAt}
use Rattle.dex_read.specs.Faults.{of_pool}
use Rattle.dex_read.specs.File.{tables_at, head_at, program_at}
use Rattle.dex_read.specs.Header.{need_at, version_at, fixed_at, sum_at, size_at, header_at}
use Rattle.dex_read.specs.Word.{word_at}
use Rattle.file_laws.proofs.Words as words
use Rattle.file_laws.specs.Founds.{Founds}
use Rattle.file_laws.proofs.Founding.{either, failed, lifted}
use Rattle.spelled_law.proofs.Once.{once_32, once_uleb}
use Rattle.clean_files.proofs.Tables.{entry_is}
use Rattle.within_law.proofs.Most.{Most, fewer, IsNumbered, numbered}
use Rattle.within_law.proofs.Spending.{took_next, Spent, spends, Between, Has, spent_run}

-- ---- what is counted, by its kind

-- an entry of a table
record OfTable (bytes : List ℕ) (header : ℕ) (w : List ℕ) : Type 0 where
  i : ℕ
  size : ℕ
  has : HasSize bytes header size
  less : i < size
  is : w ≡ i ∷ []

-- a unit of a text
record OfText (bytes : List ℕ) (w : List ℕ) : Type 0 where
  string : ℕ
  entry : ℕ
  offset : ℕ
  units : ℕ
  begin : ℕ
  i : ℕ
  stands : IsEntryAt bytes 56 4 string entry
  is_offset : Is32 bytes entry offset
  counted : IsUlebAt bytes offset (units, begin)
  less : i < units
  is : w ≡ string ∷ i ∷ []

abbrev Known : List ℕ → Counted → List ℕ → Type 0
Known bytes Types w = OfTable bytes 64 w
Known bytes Protos w = OfTable bytes 72 w
Known bytes Fields w = OfTable bytes 80 w
Known bytes Methods w = OfTable bytes 88 w
Known bytes TextUnits w = OfText bytes w
Known bytes kind w = Unit {0}

known : (bytes : List ℕ) (kind : Counted) (w : List ℕ) → Counts bytes kind w → Known bytes kind w
known bytes kind w (limits.ACell way h) = tt
known bytes kind w (limits.AnItem way h) = tt
known bytes kind w (limits.AType i size has less) = record { i = i; size = size; has = has; less = less; is = refl }
known bytes kind w (limits.AProto i size has less) = record { i = i; size = size; has = has; less = less; is = refl }
known bytes kind w (limits.AField i size has less) = record { i = i; size = size; has = has; less = less; is = refl }
known bytes kind w (limits.AMethod i size has less) = record { i = i; size = size; has = has; less = less; is = refl }
known bytes kind w (limits.AUnit string entry offset units begin i stands is_offset counted less) =
    record { string = string; entry = entry; offset = offset; units = units; begin = begin; i = i; stands = stands; is_offset = is_offset; counted = counted; less = less; is = refl }

module _ (bytes : List ℕ) where
  -- ---- tables by their sizes

  -- the size that stands there keeps the limit
  record IsSmall (header limit : ℕ) : Type 0 where
    size : ℕ
    has : HasSize bytes header size
    low : size ≤ limit

  founds_size : (at : ℕ) (kind : Counted) → Founds (λ u. IsSmall at (limit_of kind)) (size_at bytes at kind)
  unfolding size_at
  founds_size at kind = took_next (word_at bytes at) (λ n h. either {b = leb n (limit_of kind)}
      (λ yes. record { found = λ y g. record { size = n; has = (words.finds_word bytes at).found n h; low = leb-true n (limit_of kind) yes } }) (λ no. failed _))

  small : (at : ℕ) (kind : Counted) (u : Unit {0}) → size_at bytes at kind ≡ Ok u → IsSmall at (limit_of kind)
  small at kind u h = (founds_size at kind).found u h

  most_of : (header limit : ℕ) → IsSmall header limit → Most (OfTable bytes header) limit
  most_of header limit s = fewer (OfTable bytes header) s.size limit (numbered (λ i. i ∷ []) s.size)
      (λ w h. (let same = once_32 bytes header h.size s.size h.has s.has in let less = h.less in record { i = h.i; less = omega (arith, less, same); is = h.is })) s.low

  -- ---- units of texts

  module _ (t : Extents) (stand : AreExtents bytes t) where
    abbrev string_of : List ℕ → ℕ
    string_of w = slice_index w 0

    of_string : (string : ℕ) (begin : ℕ × ℕ) → IsBegin bytes t.strings string begin → (w : List ℕ) → Has (OfText bytes) string_of string w → IsNumbered (λ i. string ∷ i ∷ []) begin.0 w
    of_string string begin b w h =
        let o = h.is in
        let here : o.string ≡ string = sym (ap string_of o.is) ∙ h.same in
        let place = (entry_is bytes 56 4 o.string o.entry t.strings stand.strings o.stands).1 in
        let offset : b.at ≡ o.offset = once_32 bytes (t.strings.offset + 4 * string) b.at o.offset b.offset (subst (λ n. Is32 bytes (t.strings.offset + 4 * n) o.offset) here (subst (λ n. Is32 bytes n o.offset) place o.is_offset)) in
        let units = ap (λ (r : ℕ × ℕ). r.0) (once_uleb bytes b.at begin (o.units, o.begin) b.units (subst (λ n. IsUlebAt bytes n (o.units, o.begin)) (sym offset) o.counted)) in
        let less = o.less in
        record { i = o.i; less = omega (arith, less, units); is = o.is ∙ ap (λ n. n ∷ o.i ∷ []) here }

    founds_string : (string left : ℕ) → Founds (λ (r : List ℕ × ℕ). Spent (Has (OfText bytes) string_of string) left r.1) (string_at bytes t.strings string left)
    unfolding string_at
    founds_string string left =
        took_next (begin_of bytes t.strings string) (λ begin h. let is = (finds_begin bytes t.strings string).found begin h in
        took_next (spend TextUnits begin.0 left) (λ behind g.
        took_next (raise of_base (text_at bytes begin.1 begin.0)) (λ text _. record {
          found = λ y e. subst (λ (r : List ℕ × ℕ). Spent (Has (OfText bytes) string_of string) left r.1) (ok_is {F = PoolFault} (text.0, behind) y e)
              (record { count = begin.0; most = fewer (Has (OfText bytes) string_of string) begin.0 begin.0 (numbered (λ i. string ∷ i ∷ []) begin.0) (of_string string begin is) (omega arith); taken = (spends TextUnits begin.0 left).found behind g });
        })))

    of_table : (w : List ℕ) → OfText bytes w → Between (OfText bytes) string_of 0 t.strings.size w
    of_table w h =
        let first : string_of w ≡ h.string = ap string_of h.is in
        let less = (entry_is bytes 56 4 h.string h.entry t.strings stand.strings h.stands).0 in
        record { is = h; low = omega arith; high = omega (arith, first, less) }

    all_units : (last : ℕ) → Spent (Between (OfText bytes) string_of 0 t.strings.size) 16777216 last → Most (OfText bytes) 16777216
    all_units last s = fewer (OfText bytes) s.count 16777216 s.most of_table (let taken = s.taken in omega (arith, taken))

    founds_strings : Founds (λ strings. Most (OfText bytes) 16777216) (strings_at bytes t)
    unfolding strings_at
    founds_strings =
        took_next (run (string_at bytes t.strings) 0 t.strings.size 16777216) (λ strings h. record {
          found = λ y g.
              all_units strings.1 ((spent_run (OfText bytes) string_of (string_at bytes t.strings) (λ s. s) t.strings.size (λ i s less. founds_string i s) 0 t.strings.size 16777216 (omega arith)).found strings h);
        })

  founds_pools : Founds (λ (r : Pools × ℕ). Most (OfText bytes) 16777216) (pools_at bytes 16777216)
  unfolding pools_at
  founds_pools =
      took_next (extents_at bytes) (λ t h. let stand = (finds_extents bytes).found t h in
      took_next (strings_at bytes t) (λ strings g. record { found = λ y e. (founds_strings t stand).found strings g }))

  -- ---- all

  record AreFew : Type 0 where
    types : IsSmall 64 65535
    protos : IsSmall 72 65535
    fields : IsSmall 80 65536
    methods : IsSmall 88 65536

  founds_header : Founds (λ version. AreFew) (header_at bytes)
  unfolding header_at
  founds_header =
      took_next (need_at bytes 0 112) (λ _ _.
      took_next (version_at bytes) (λ _ _.
      took_next (fixed_at bytes 32 (length bytes)) (λ _ _.
      took_next (fixed_at bytes 36 112) (λ _ _.
      took_next (fixed_at bytes 40 0x12345678) (λ _ _.
      took_next (fixed_at bytes 44 0) (λ _ _.
      took_next (sum_at bytes) (λ _ _.
      took_next (size_at bytes 64 Types) (λ a types.
      took_next (size_at bytes 72 Protos) (λ b protos.
      took_next (size_at bytes 80 Fields) (λ c fields.
      took_next (size_at bytes 88 Methods) (λ d methods. record {
        found = λ y e.
            record { types = small 64 Types a types; protos = small 72 Protos b protos; fields = small 80 Fields c fields; methods = small 88 Methods d methods };
      })))))))))))

  -- of each quantity of the tables no more than its limit
  abbrev Kept : Type 0
  Kept = AreFew × Most (OfText bytes) 16777216

  founds_head : Founds (λ (r : Program × ℕ). Kept) (head_at bytes)
  unfolding head_at tables_at
  founds_head =
      took_next (header_at bytes) (λ version h.
      took_next (raise of_pool (pools_at bytes 16777216)) (λ pools g. record { found = λ y e. (founds_header.found version h, (lifted of_pool founds_pools).found pools g) }))

  founds_program : Founds (λ p. Kept) (program_at bytes)
  unfolding program_at
  founds_program = took_next (head_at bytes) (λ tables h. record { found = λ y e. founds_head.found tables h })

  pub types_kept : (p : Program) → program_at bytes ≡ Ok p → Most (Counts bytes Types) 65535
  types_kept p h = fewer (Counts bytes Types) 65535 65535 (most_of 64 65535 (founds_program.found p h).0.types) (known bytes Types) (omega arith)

  pub protos_kept : (p : Program) → program_at bytes ≡ Ok p → Most (Counts bytes Protos) 65535
  protos_kept p h = fewer (Counts bytes Protos) 65535 65535 (most_of 72 65535 (founds_program.found p h).0.protos) (known bytes Protos) (omega arith)

  pub fields_kept : (p : Program) → program_at bytes ≡ Ok p → Most (Counts bytes Fields) 65536
  fields_kept p h = fewer (Counts bytes Fields) 65536 65536 (most_of 80 65536 (founds_program.found p h).0.fields) (known bytes Fields) (omega arith)

  pub methods_kept : (p : Program) → program_at bytes ≡ Ok p → Most (Counts bytes Methods) 65536
  methods_kept p h = fewer (Counts bytes Methods) 65536 65536 (most_of 88 65536 (founds_program.found p h).0.methods) (known bytes Methods) (omega arith)

  pub units_kept : (p : Program) → program_at bytes ≡ Ok p → Most (Counts bytes TextUnits) 16777216
  units_kept p h = fewer (Counts bytes TextUnits) 16777216 16777216 (founds_program.found p h).1 (known bytes TextUnits) (omega arith)
