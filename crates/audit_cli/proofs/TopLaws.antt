-- Lemmas on the whole of a run.
use Rattle.std.proofs.Common.{◌≡◌, ℕ, List, [], ◌∷◌, ◌++◌, refl, sym, ap, ◌∙◌, subst, append-nil}
use Rattle.std.specs.Io.KnownBytes.{Appends}
use Rattle.std.proofs.KnownBytes.{Appends-trans}
use Rattle.ledger_io.specs.Endings.{status_of}
use Rattle.ledger_io.specs.Outside.{Outside}
use Rattle.ledger_io.specs.Runs.{Ran}
use Rattle.ledger_io.specs.declared.ending.Ending.{Ending}
use Rattle.ledger_io.specs.declared.ending.Ending.TheVariants.{Done, Usage, ReadFault, WriteFault, NoMemory, LineTooLong, ScriptTooLong}
use Rattle.tree_model.specs.Tree.{Hash}
use Rattle.audit_cli.specs.Sound.{IsSoundText, SoundRun}
use Rattle.audit_cli.specs.Runs.{AnswersScript, RanScript}

-- ---- a run that is done

-- what begins no bytes is none
nil_front : (xs ys : List ℕ) → [] ≡ xs ++ ys → xs ≡ []
nil_front [] ys e = refl
nil_front (x ∷ xs) ys e = absurd cc

done_sound : (hash : Hash) (before after : Outside) → Ran (AnswersScript hash) Done before after → SoundRun hash before after
done_sound hash before after ran =
    let served = ran.served in
    let told = served.replied in
    let none : ran.last.last ≡ [] = nil_front ran.last.last ran.last.front.rest ran.last.front.is in
    let written = Appends-trans before.sink.held ran.sink.held after.sink.held served.replies ran.last.last served.appended ran.last.appended in
    record {
      read = served.read;
      text = served.replies;
      consumed = served.consumed;
      at_end = told.ended.1;
      written = subst (Appends before.sink.held after.sink.held) (ap (λ last. served.replies ++ last) none ∙ append-nil served.replies) written;
      sound = subst (λ lines. IsSoundText hash lines served.replies) told.ended.3 told.answered.sound;
    }

ending_sound : (hash : Hash) (ending : Ending) (before after : Outside) → status_of ending ≡ 0 → Ran (AnswersScript hash) ending before after → SoundRun hash before after
ending_sound hash Done before after e ran = done_sound hash before after ran
ending_sound hash Usage before after e ran = absurd cc
ending_sound hash ReadFault before after e ran = absurd cc
ending_sound hash WriteFault before after e ran = absurd cc
ending_sound hash NoMemory before after e ran = absurd cc
ending_sound hash LineTooLong before after e ran = absurd cc
ending_sound hash ScriptTooLong before after e ran = absurd cc

pub run_sound : (hash : Hash) (status : ℕ) (before after : Outside) → RanScript hash status before after → status ≡ 0 → SoundRun hash before after
run_sound hash status before after ran zero_is = ending_sound hash ran.ending before after (sym ran.status_is ∙ zero_is) ran.ran
