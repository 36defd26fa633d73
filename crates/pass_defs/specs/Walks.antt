-- Walks through a body, and which registers they read (Dalvik bytecode, "Summary of bytecode set"; Dalvik executable
-- format, "try_item"). A walk goes from a position to the next one where the form goes on, to each target, and, where
-- the form may throw, to each handler of the region that covers it. A position that is left through a handler has
-- written nothing.
use Rattle.std.specs.Prelude.{◌≡◌, ℕ, ◌+◌, Bool, true, false, ◌&&◌, nat_le, nat_lt, List, [], ◌∷◌, ◌++◌, map, Option, Some, None, slice_get, find, Contains}
use Rattle.dalvik_defs.specs.declared.forms.Form.{Form}
use Rattle.dalvik_defs.specs.declared.program.NamedRegion.{NamedRegion}
use Rattle.dalvik_defs.specs.declared.program.NamedBody.{NamedBody}
use Rattle.pass_defs.specs.Bare.{reads, writes, may_throw, continues, targets}

abbrev pub form_at : NamedBody → ℕ → Option Form
form_at b n = slice_get b.forms n

abbrev pub is_covered : ℕ → NamedRegion → Bool
is_covered n r = nat_le r.first n && nat_lt n r.end

-- the region that covers a position
abbrev pub region_at : NamedBody → ℕ → Option NamedRegion
region_at b n = find (is_covered n) b.regions

abbrev pub listed : Option ℕ → List ℕ
listed None = []
listed (Some n) = n ∷ []

abbrev pub handlers_of : Option NamedRegion → List ℕ
handlers_of None = []
handlers_of (Some r) = map (λ h. h.position) r.handlers ++ listed r.rest

abbrev pub handlers_at : NamedBody → ℕ → List ℕ
handlers_at b n = handlers_of (region_at b n)

abbrev pub next_position : Bool → ℕ → List ℕ
next_position true n = (n + 1) ∷ []
next_position false n = []

-- where a form goes that doesn't throw, and where it goes that does
abbrev pub onward : Form → ℕ → List ℕ
onward f n = next_position (continues f) n ++ targets f

abbrev pub caught : NamedBody → Form → ℕ → List ℕ
caught b f n = elim (may_throw f) [ true ↦ handlers_at b n | false ↦ [] ]

abbrev pub successors : NamedBody → ℕ → List ℕ
successors b n = elim (form_at b n) [ Some f ↦ onward f n ++ caught b f n | None ↦ [] ]

-- a walk along steps
pub data Walk (next : ℕ → List ℕ) : ℕ → ℕ → Type 0 where
  Stays : (n : ℕ) → Walk next n n
  Goes : (n m k : ℕ) → Contains (next n) m → Walk next m k → Walk next n k

-- some walk from the entry comes to a position
abbrev pub IsReached : NamedBody → ℕ → Type 0
IsReached b n = Walk (successors b) 0 n

-- A walk from the first position comes to the second, which reads the register before any position on the way has
-- written it.
pub data IsReadAt (b : NamedBody) (r : ℕ) : ℕ → ℕ → Type 0 where
  Here : (n : ℕ) (f : Form) → form_at b n ≡ Some f → reads f r ≡ true → IsReadAt b r n n
  Onward : (n m k : ℕ) (f : Form) → form_at b n ≡ Some f → writes f r ≡ false → Contains (onward f n) m → IsReadAt b r m k → IsReadAt b r n k
  Caught : (n m k : ℕ) (f : Form) → form_at b n ≡ Some f → Contains (caught b f n) m → IsReadAt b r m k → IsReadAt b r n k

-- some walk from a position reads the register before it is written
abbrev pub IsRead : NamedBody → ℕ → ℕ → Type 0
IsRead b r n = (k : ℕ) × IsReadAt b r n k

-- some walk onward from a position does, also through its handlers
abbrev pub IsReadAfter : NamedBody → ℕ → ℕ → Type 0
IsReadAfter b r n = (m : ℕ) × Contains (successors b n) m × IsRead b r m
