use Rattle.file_laws.proofs.Classes.{founds_frame, founds_body}
use Rattle.file_laws.proofs.file_laws.code_item_law.Goals as goal

pub returns : goal.returns
returns c = record {
  items = λ bytes at. founds_frame bytes at;
  bodies = λ bytes at p method left item is few. founds_body bytes at p method left item is few;
}
