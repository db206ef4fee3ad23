-- A line before a chain's links and the lines of a trail that are read have the words that would be written, but that
-- their names may be
-- spelled in another way.
use Rattle.std.proofs.Common.{◌≡◌, ℕ, Bool, true, false, List, [], ◌∷◌, ◌++◌, map, codes, None, Some, refl, ap, subst, ◌∙◌, inl, inr}
use Rattle.std.specs.Fmt.{decimal}
use Rattle.std.specs.List.{list_all}
use Rattle.std.proofs.lemmas.Option.{same_Some}
use Rattle.dns_model.specs.NameText.{printed}
use Rattle.dns_model.specs.OptionSteps.{◌>>=◌}
use Rattle.dns_model.specs.Records.{Rr, Question}
use Rattle.dns_model.specs.Trails.{JudgedSetValue, EndingValue, Answered, Denied, Foreign, Failed, Seen}
use Rattle.dns_model.specs.declared.denial.Denial.{Denial}
use Rattle.dns_model.specs.declared.proof.Proof.TheVariants.{Indeterminate}
use Rattle.dns_model.specs.declared.section.Section.{Section}
use Rattle.dns_record.specs.Words.{type_word, class_word}
use Rattle.dns_text.specs.Words.{name_word_in}
use Rattle.dns_text.specs.Codes.{type_word_in, class_word_in}
use Rattle.dns_session.specs.Lines.{Words, after, single, double, quadruple, question_in}
use Rattle.dns_report.specs.LineWords.{section_word}
use Rattle.dns_report.specs.Fields.{fitting_name, is_u16, is_u32}
use Rattle.dns_report.specs.TrailView.{unmarked, fitting_told, fitting_set, fitting_ending, fitting_ask}
use Rattle.dns_report.specs.TrailLines.{purpose_word, empty_words, ask_word, ending_words}
use Rattle.dns_report.proofs.StepLines.{told_of, set_of}
use Rattle.dns_audit.specs.ReportValue.{ChainHead, StepHead, StepEnd, GotValue, Code, NoReply}
use Rattle.dns_audit.specs.ReportWords.{u16_in, u32_in, rdata_in, mark_in, section_in, purpose_in, ask_in, origin_in, place_in}
use Rattle.dns_audit.specs.LineParts.{each_in, quintuple, first_of, three_of, six_of}
use Rattle.dns_audit.specs.ReportLines.{marked, denial_by, got_code, got_empty, got_by, got_in, set_in, foreign_in, plain_by, ending_by, ending_in}
use Rattle.dns_audit.specs.Written.{short_told}
use Rattle.dns_audit.specs.Respelled.{WordsRespell}
use Rattle.dns_audit.proofs.FromSteps.{made, by_word}
use Rattle.dns_audit.proofs.ReadFields.{small_from, number_from, type_read_from, class_read_from, rdata_from, name_from}
use Rattle.dns_audit.proofs.ReadWords.{mark_from, section_from, purpose_from, origin_from, place_from, Mapped, mapped, asks_from}
use Rattle.dns_audit.proofs.WordCounts.{after_is, after_from, single_is, double_is, quadruple_is, quintuple_is, first_is, three_is, six_is}
use Rattle.dns_audit.proofs.ReadLines.{Says, words_as, words_are, named, Front, marked_from, word_front, mark_front, denial_front}
use Rattle.dns_audit.proofs.WrittenForms.{chain_then, chain_by, trail_by, step_by, got_words_in, told_by, set_by, ending_words_in}

-- ---- lines that are read before a count of others

pub record HeadSays (ws : Words) (head : ChainHead) : Type 0 where
  pub alike : WordsRespell ws (codes "chain" ∷ section_word head.section ∷ decimal head.count ∷ [])
  pub count : is_u32 head.count ≡ true

pub chain_from : (ws : Words) (head : ChainHead) → chain_by ws ≡ Some head → HeadSays ws head
chain_from ws head h =
    let a = after_from (codes "chain") ws chain_then head h in
    let f = made (double a.rest) _ head a.gives in
    let section = made (section_in f.value.0) _ head f.gives in
    let count = made (u32_in f.value.1) _ head section.gives in
    let s = section_from f.value.0 section.value section.was in
    let n = number_from f.value.1 count.value count.was in
    subst (HeadSays ws) (same_Some _ head count.gives)
    (record {
      alike = words_as ws _ (codes "chain" ∷ section_word section.value ∷ decimal count.value ∷ [])
          (a.is ∙ ap (λ vs. codes "chain" ∷ vs) (double_is a.rest f.value f.was))
          (inl refl, (inl s, (inl n.0, tt)));
      count = n.1;
    })

pub count_from : (ws : Words) (count : ℕ) → trail_by ws ≡ Some count
    → WordsRespell ws (codes "trail" ∷ decimal count ∷ []) × (is_u32 count ≡ true)
count_from ws count h =
    let a = after_from (codes "trail") ws _ count h in
    let w = made (single a.rest) _ count a.gives in
    let n = number_from w.value count w.gives in (
      words_are ws (codes "trail" ∷ decimal count ∷ [])
          (a.is ∙ ap (λ vs. codes "trail" ∷ vs) (single_is a.rest w.value w.was ∙ ap (λ v. v ∷ []) n.0)),
      n.1,
    )

-- ---- steps

pub record StepSays (ws : Words) (head : StepHead) : Type 0 where
  pub alike : WordsRespell ws
      (codes "step" ∷ decimal head.depth ∷ purpose_word head.judged ∷ printed head.query.owner ∷ type_word
      head.query.rtype ∷ [])
  pub depth : is_u16 head.depth ≡ true
  pub owner : fitting_name head.query.owner ≡ true
  pub rtype : is_u16 head.query.rtype ≡ true

pub step_from : (ws : Words) (head : StepHead) → step_by ws ≡ Some head → StepSays ws head
step_from ws head h =
    let a = after_from (codes "step") ws _ head h in
    let f = made (quadruple a.rest) _ head a.gives in
    let depth = made (u16_in f.value.0) _ head f.gives in
    let judged = made (purpose_in f.value.1) _ head depth.gives in
    let query = made (question_in f.value.2 f.value.3) _ head judged.gives in
    let owner = made (name_word_in f.value.2) _ query.value query.was in
    let rtype = made (type_word_in f.value.3) _ query.value owner.gives in
    let d = small_from f.value.0 depth.value depth.was in
    let p = purpose_from f.value.1 judged.value judged.was in
    let n = name_from f.value.2 owner.value owner.was in
    let t = type_read_from f.value.3 rtype.value rtype.was in
    let all : StepSays ws (record { depth = depth.value; judged = judged.value; query = query.value }) =
    subst (λ (q : Question). StepSays ws (record { depth = depth.value; judged = judged.value; query = q }))
    (same_Some _ query.value rtype.gives)
    (record {
      alike = words_as ws _
          (codes "step" ∷ decimal depth.value ∷ purpose_word judged.value ∷ printed owner.value ∷ type_word
          rtype.value ∷ [])
          (a.is ∙ ap (λ vs. codes "step" ∷ vs) (quadruple_is a.rest f.value f.was))
          (inl refl, (inl d.0, (inl p, (named f.value.2 owner.value owner.was, (inl t.0, tt)))));
      depth = d.1;
      owner = n;
      rtype = t.1;
    }) in
    subst (StepSays ws) (same_Some _ head query.gives) all

-- the words of what was heard, as they would be written
abbrev pub got_spelled : GotValue → Words
got_spelled (Code code empty) = decimal code ∷ empty_words empty
got_spelled NoReply = codes "fault" ∷ []

abbrev pub got_fits : GotValue → Bool
got_fits (Code code empty) = is_u16 code
got_fits NoReply = true

abbrev GotSays : Words → GotValue → Type 0
GotSays ws got = WordsRespell ws (got_spelled got) × (got_fits got ≡ true)

got_coded : (empty : Bool) (word : List ℕ) (more : Words) (got : GotValue) → more ≡ empty_words empty
    → got_code empty word ≡ Some got
    → GotSays (word ∷ more) got
got_coded empty word more got e h =
    let m = mapped (λ code. Code code empty) (u16_in word) got h in
    let n = small_from word m.value m.was in
    subst (GotSays (word ∷ more)) m.is ((inl n.0, words_are more (empty_words empty) e), n.1)

got_words : (word : List ℕ) (ws : Words) (got : GotValue) → got_by word ws ≡ Some got → GotSays (word ∷ ws) got
unfolding got_by
got_words word [] got h =
    elim (by_word word (codes "fault") (Some NoReply) _ got h) [
      | inl e ↦ subst (GotSays (word ∷ [])) (same_Some NoReply got e.1) ((inl e.0, tt), refl)
      | inr code ↦ got_coded false word [] got refl code
    ]
got_words word (next ∷ ws) got h =
    let w = made (single (next ∷ ws)) (got_empty word) got h in
    elim (by_word w.value (codes "empty") (got_code true word) None got w.gives) [
      | inl e ↦
          got_coded true word (next ∷ ws) got (single_is (next ∷ ws) w.value w.was ∙ ap (λ v. v ∷ []) e.0) e.1
      | inr none ↦ cc
    ]

pub got_from : (ws : Words) (got : GotValue) → got_words_in ws ≡ Some got
    → WordsRespell ws (codes "got" ∷ got_spelled got) × (got_fits got ≡ true)
got_from ws got h =
    let a = after_from (codes "got") ws got_in got h in
    let front = made (first_of a.rest) _ got a.gives in
    let says = got_words front.value.0 front.value.1 got front.gives in (
      words_as ws (codes "got" ∷ front.value.0 ∷ front.value.1) (codes "got" ∷ got_spelled got)
          (a.is ∙ ap (λ vs. codes "got" ∷ vs) (first_is a.rest front.value front.was))
          (inl refl, says.0),
      says.1,
    )

abbrev ToldSays : Section → Words → Rr → Type 0
ToldSays section ws r = Says ws (told_of section (unmarked r)) (fitting_told (unmarked r)) (short_told (unmarked r))

pub told_from : (section : Section) (ws : Words) (r : Rr) → told_by section ws ≡ Some r → ToldSays section ws r
told_from section ws r h =
    let front = made (after (codes "told") ws >>= after (section_word section)) _ r h in
    let a = after_from (codes "told") ws (after (section_word section)) front.value front.was in
    let rest = after_is (section_word section) a.rest front.value a.gives in
    let f = made (quintuple front.value) _ r front.gives in
    let owner = made (name_word_in f.value.0) _ r f.gives in
    let class = made (class_word_in f.value.1) _ r owner.gives in
    let rtype = made (type_word_in f.value.2) _ r class.gives in
    let ttl = made (u32_in f.value.3) _ r rtype.gives in
    let rdata = made (rdata_in f.value.4) _ r ttl.gives in
    let n = name_from f.value.0 owner.value owner.was in
    let c = class_read_from f.value.1 class.value class.was in
    let t = type_read_from f.value.2 rtype.value rtype.was in
    let s = number_from f.value.3 ttl.value ttl.was in
    let d = rdata_from f.value.4 rdata.value rdata.was in
    let is = a.is
    ∙ ap (λ vs. codes "told" ∷ vs)
    (rest ∙ ap (λ vs. section_word section ∷ vs) (quintuple_is front.value f.value f.was)) in
    let it : Rr = record {
      owner = owner.value;
      rtype = rtype.value;
      class = class.value;
      ttl = ttl.value;
      rdata = rdata.value;
      proof = Indeterminate;
    } in
    subst (ToldSays section ws) (same_Some it r rdata.gives)
    (record {
      alike = words_as ws _ (codes "told" ∷ (told_of section (unmarked it)).1) is (
        inl refl,
        (
          inl refl,
          (named f.value.0 owner.value owner.was, (inl c.0, (inl t.0, (inl s.0, (inl d.word_is, tt))))),
        ),
      );
      fits = rw (n, c.1, t.1, s.1) d.bytes_are;
      short = d.short;
    })

abbrev SetSays : Words → JudgedSetValue → Type 0
SetSays ws s = Says ws (set_of s) (fitting_set s) true

pub set_from : (ws : Words) (s : JudgedSetValue) → set_by ws ≡ Some s → SetSays ws s
set_from ws s h =
    let a = after_from (codes "set") ws set_in s h in
    let f = made (six_of a.rest) _ s a.gives in
    let section = made (section_in f.value.0) _ s f.gives in
    let owner = made (name_word_in f.value.1) _ s section.gives in
    let rtype = made (type_word_in f.value.2) _ s owner.gives in
    let mark = made (mark_in f.value.3) _ s rtype.gives in
    let origin = made (origin_in f.value.4) _ s mark.gives in
    let sig = made (place_in f.value.5) _ s origin.gives in
    let asked = made (each_in ask_in f.value.6) _ s sig.gives in
    let k = section_from f.value.0 section.value section.was in
    let n = name_from f.value.1 owner.value owner.was in
    let t = type_read_from f.value.2 rtype.value rtype.was in
    let m = mark_from f.value.3 mark.value mark.was in
    let o = origin_from f.value.4 origin.value origin.was in
    let p = place_from f.value.5 sig.value sig.was in
    let q = asks_from f.value.6 asked.value asked.was in
    let is = a.is ∙ ap (λ vs. codes "set" ∷ vs) (six_is a.rest f.value f.was) in
    let it : JudgedSetValue = record {
      section = section.value;
      owner = owner.value;
      rtype = rtype.value;
      mark = mark.value;
      origin = origin.value;
      sig = sig.value;
      asked = asked.value;
    } in
    subst (SetSays ws) (same_Some it s asked.gives)
    (record {
      alike = words_as ws _ (codes "set" ∷ (set_of it).1) is (
        inl refl,
        (
          inl k,
          (
            named f.value.1 owner.value owner.was,
            (inl t.0, (inl m, (inl o.0, (inl p.0, words_are f.value.6 (map ask_word asked.value) q.0)))),
          ),
        ),
      );
      fits = rw (n, t.1, o.1, p.1) q.1;
      short = refl;
    })

-- ---- endings

-- the words of an ending, in front of others
record EndingFront (kind : List ℕ) (ws : Words) (out : EndingValue × Words) : Type 0 where
  front : Front (kind ∷ ws) out.1 (ending_words out.0)
  fits : fitting_ending out.0 ≡ true

answered_as : (kind : List ℕ) (ws : Words) (out : EndingValue × Words)
    → Mapped (λ (read : Denial × Words). (Answered read.0, read.1)) (denial_by kind ws) out → EndingFront kind ws out
answered_as kind ws out m =
    subst (EndingFront kind ws) m.is (record { front = denial_front kind ws m.value m.was; fits = refl })

plain_front : (kind : List ℕ) (ws : Words) (out : EndingValue × Words) → plain_by kind ws ≡ Some out
    → EndingFront kind ws out
unfolding plain_by
plain_front kind ws out h =
    elim (by_word kind (codes "denied") (marked Denied ws) _ out h) [
      | inl e ↦
          let m = marked_from Denied ws out e.1 in
          subst (λ (ending : EndingValue). EndingFront kind ws (ending, out.1)) m.value
          (record { front = mark_front kind (codes "denied") ws out.1 m.mark e.0 m.is; fits = refl })
      | inr a ↦
          elim (by_word kind (codes "failed") (Some (Failed, ws)) _ out a) [
            | inl e ↦
                subst (EndingFront kind ws) (same_Some (Failed, ws) out e.1)
                (record { front = word_front kind (codes "failed") ws e.0; fits = refl })
            | inr b ↦
                elim (by_word kind (codes "seen") (Some (Seen, ws)) _ out b) [
                  | inl e ↦
                      subst (EndingFront kind ws) (same_Some (Seen, ws) out e.1)
                      (record { front = word_front kind (codes "seen") ws e.0; fits = refl })
                  | inr c ↦ answered_as kind ws out
                      (mapped (λ (read : Denial × Words). (Answered read.0, read.1)) (denial_by kind ws) out c)
                ]
          ]
    ]

foreign_front : (kind : List ℕ) (ws : Words) (out : EndingValue × Words) → kind ≡ codes "foreign"
    → foreign_in ws ≡ Some out
    → EndingFront kind ws out
foreign_front kind ws out e h =
    let f = made (three_of ws) _ out h in
    let owner = made (name_word_in f.value.0) _ out f.gives in
    let class = made (class_word_in f.value.1) _ out owner.gives in
    let rtype = made (type_word_in f.value.2) _ out class.gives in
    let n = name_from f.value.0 owner.value owner.was in
    let c = class_read_from f.value.1 class.value class.was in
    let t = type_read_from f.value.2 rtype.value rtype.was in
    subst (EndingFront kind ws) (same_Some (Foreign owner.value class.value rtype.value, f.value.3) out rtype.gives)
    (record {
      front = record {
        alike = λ tail rest. (
          inl e,
          words_as ws _ (printed owner.value ∷ class_word class.value ∷ type_word rtype.value ∷ tail)
              (three_is ws f.value f.was) (named f.value.0 owner.value owner.was, (inl c.0, (inl t.0, rest))),
        );
      };
      fits = rw (n, c.1) t.1;
    })

ending_front : (kind : List ℕ) (ws : Words) (out : EndingValue × Words) → ending_by kind ws ≡ Some out
    → EndingFront kind ws out
unfolding ending_by
ending_front kind ws out h =
    elim (by_word kind (codes "foreign") (foreign_in ws) _ out h) [
      | inl e ↦ foreign_front kind ws out e.0 e.1
      | inr a ↦ plain_front kind ws out a
    ]

pub record EndSays (ws : Words) (end : StepEnd) : Type 0 where
  pub alike : WordsRespell ws (codes "ending" ∷ (ending_words end.ending ++ map ask_word end.excuse))
  pub ending : fitting_ending end.ending ≡ true
  pub excuse : list_all fitting_ask end.excuse ≡ true

pub ending_from : (ws : Words) (end : StepEnd) → ending_words_in ws ≡ Some end → EndSays ws end
ending_from ws end h =
    let a = after_from (codes "ending") ws ending_in end h in
    let front = made (first_of a.rest) _ end a.gives in
    let read = made (ending_by front.value.0 front.value.1) _ end front.gives in
    let excuse = made (each_in ask_in read.value.1) _ end read.gives in
    let f = ending_front front.value.0 front.value.1 read.value read.was in
    let q = asks_from read.value.1 excuse.value excuse.was in
    let rest : WordsRespell read.value.1 (map ask_word excuse.value) =
    words_are read.value.1 (map ask_word excuse.value) q.0 in
    subst (EndSays ws) (same_Some _ end excuse.gives)
    (record {
      alike = words_as ws (codes "ending" ∷ front.value.0 ∷ front.value.1)
          (codes "ending" ∷ (ending_words read.value.0 ++ map ask_word excuse.value))
          (a.is ∙ ap (λ vs. codes "ending" ∷ vs) (first_is a.rest front.value front.was))
          (inl refl, f.front.alike (map ask_word excuse.value) rest);
      ending = f.fits;
      excuse = q.1;
    })
