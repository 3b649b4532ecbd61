use Rattle.twin_file.proofs.OpenLaws.{same_passed, after_same, same_front, after_front}
use Rattle.twin_file.proofs.parts.clear.Goals as goal

pub returns-in_err-len-clause-images : goal.returns-in_err-len-clause-images
returns-in_err-len-clause-images g c told = same_passed _ _ (c.len.ensures.state told)

pub returns-in_err-wipe_file-clause-images : goal.returns-in_err-wipe_file-clause-images
returns-in_err-wipe_file-clause-images g c told = after_same _ _ _ (c.len.ensures.state told) (c.wipe_file.ensures.images told)

pub returns-in_err-len-clause-front : goal.returns-in_err-len-clause-front
returns-in_err-len-clause-front g c told = same_front _ _ (c.len.ensures.state told)

pub returns-in_err-wipe_file-clause-front : goal.returns-in_err-wipe_file-clause-front
returns-in_err-wipe_file-clause-front g c told = after_front _ _ _ (c.len.ensures.state told) (c.wipe_file.ensures.front told)
