-- Why a lookup isn't saved.
use Rattle.std.specs.Prelude.{◌<◌, length}
use Rattle.dns_io.specs.Reading.{input_limit}
use Rattle.dns_model.specs.Keys.{VerifierAnswers}
use Rattle.dns_saved_session.specs.SavedText.{saved_text, session_saved}
use Rattle.dns_saved_lookup.specs.Alike.{IsAnsweredElse}
use Rattle.dns_saved_lookup.specs.Lookups.{LookupValue, saved_by}
use Rattle.dns_saved_lookup.specs.declared.save_error.SaveError.{SaveError}
use Rattle.dns_saved_lookup.specs.declared.save_error.SaveError.TheVariants.{LongMessage, LongText, Differs, NoMemory}

-- its session is answered otherwise, or is longer than an input may be; or memory ran out
abbrev pub IsUnsaved : VerifierAnswers → LookupValue → SaveError → Type 0
IsUnsaved answers l Differs = IsAnsweredElse (session_saved (saved_by answers l)) l.answer
IsUnsaved answers l LongText = input_limit < length (saved_text (saved_by answers l))
IsUnsaved answers l LongMessage = ⊥
IsUnsaved answers l NoMemory = Unit {0}
