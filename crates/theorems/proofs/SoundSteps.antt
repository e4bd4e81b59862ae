-- Sound byte tables stay sound byte tables, and a step on them is the call on their records. Assumes nothing.
use mathlib.Core.Path.{◌≡◌, sym, ap, ◌∙◌, subst}
use mathlib.Core.Bool.{true}
use Rattle.records.specs.Records.{State}
use Rattle.records.specs.Bytes.{Tables, decode, encode}
use Rattle.specification.specs.Answer.{Outcome}
use Rattle.specification.specs.Call.{Call, arguments_in_range}
use Rattle.specification.specs.Sound.{sound}
use Rattle.specification.specs.Step.{encoded, step}
use Rattle.theorems.specs.SoundTables.{SoundTables}
use Rattle.records.proofs.EncodeDecode.{encode-decode}
use Rattle.specification.proofs.OnRecords.{call_on_records}
use Rattle.specification.proofs.SoundFacts.{SoundFacts, sound-facts, is-sound}
use Rattle.theorems.proofs.Encodable.{Encodable, call_fits}
use Rattle.theorems.proofs.FieldsInRange.{decoded-sized, decoded, in-range-fits, encoded-bytes, sound-in-range}
use Rattle.theorems.proofs.OnBytes.{decode-encode, step-on-records}
use Rattle.theorems.proofs.SoundCall.{call-sound}

-- sound records that fit their bytes encode into sound tables
pub encoded-sound : (s : State) → SoundFacts s → Encodable s → SoundTables (encode s)
encoded-sound s g f =
    record { bytes = encoded-bytes s (sound-in-range s g f); is_sound = ap sound (decode-encode s g.sized f) ∙ is-sound s g }

module _ (t : Tables) (st : SoundTables t) where
  pub facts : SoundFacts (decode t)
  facts = sound-facts (decode t) (decoded-sized t) st.is_sound

  pub fits : Encodable (decode t)
  fits = in-range-fits (decoded t st.bytes)

  pub step_is : (c : Call) → step t c ≡ encoded (call_on_records (decode t) c)
  step_is c = ap (λ (u : Tables). step u c) (sym (encode-decode t st.bytes)) ∙ step-on-records (decode t) facts.sized fits c

  pub answer-is : (c : Call) → (step t c).answer ≡ (call_on_records (decode t) c).answer
  answer-is c = ap (λ (o : Outcome Tables). o.answer) (step_is c)

  module _ (c : Call) (args : arguments_in_range c ≡ true) where
    pub decoded-after : decode (step t c).after ≡ (call_on_records (decode t) c).after
    decoded-after =
        ap (λ (o : Outcome Tables). decode o.after) (step_is c)
        ∙ decode-encode _ (call-sound (decode t) facts c).sized (call_fits (decode t) facts fits c args)

    pub sound-stays : SoundTables (step t c).after
    sound-stays =
        subst (λ (o : Outcome Tables). SoundTables o.after) (sym (step_is c))
        (encoded-sound _ (call-sound (decode t) facts c) (call_fits (decode t) facts fits c args))
