-- Replies that come in their turn, to whoever asks their questions in their order.
use Rattle.std.specs.Prelude.{◌≡◌, List, [], ◌∷◌, map}
use Rattle.dns_handle.specs.Errors.{Reply}
use Rattle.dns_handle.specs.Handles.{Replies, reply_to, left_after}
use Rattle.dns_model.specs.Records.{Question}
use Rattle.dns_saved_session.specs.Saved.{SavedValue}
use Rattle.dns_saved_session.specs.SavedText.{session_saved}
use Rattle.dns_session_lookup.specs.Answering.{session_replies}
use Rattle.dns_session_lookup.specs.Replies.{recorded}

-- each question is answered with its own reply, one send after another
abbrev pub ServesInTurn : Replies → List (Question × Reply) → Type 0
ServesInTurn replies [] = Unit {0}
ServesInTurn replies (told ∷ rest) = (reply_to replies.list told.0 ≡ told.1) × ServesInTurn (left_after replies told.0) rest

-- a saved session serves its own replies so
abbrev pub SavedServes : SavedValue → Type 0
SavedServes s = ServesInTurn (session_replies (session_saved s)) (map recorded (session_saved s).replies)
