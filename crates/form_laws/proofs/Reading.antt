-- Where a register is read later some form reads it.
use Rattle.std.specs.Prelude.{◌≡◌, ℕ, true, Some}
use Rattle.dalvik_defs.specs.declared.forms.Form.{Form}
use Rattle.dalvik_defs.specs.declared.program.NamedBody.{NamedBody}
use Rattle.pass_defs.specs.Bare.{reads}
use Rattle.pass_defs.specs.Walks.{form_at, IsReadAt}

pub reads_some : (b : NamedBody) (r n k : ℕ) → IsReadAt b r n k → (m : ℕ) × ((f : Form) × ((form_at b m ≡ Some f) × (reads f r ≡ true)))
reads_some b r n k (IsReadAt.Here m f e i) = (m, (f, (e, i)))
reads_some b r n k (IsReadAt.Onward m j l f e i c h) = reads_some b r j l h
reads_some b r n k (IsReadAt.Caught m j l f e c h) = reads_some b r j l h
