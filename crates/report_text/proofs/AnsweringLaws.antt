-- What a call answers to bytes, by how it ends.
use Rattle.std.proofs.Common.{◌≡◌, ◌⊎◌, ℕ, ◌+◌, ◌≤◌, List, Option, None, Some, IfSome, inl, inr, refl, subst, arith}
use Rattle.fv_outside.specs.Consumed.{TookAtMost, TookJust, TookToEnd, StopsAtEnd, EndsBehind}
use Rattle.fv_outside.specs.Faults.{Rose}
use Rattle.fv_outside.specs.Written.{Grows, GrowsByFront}
use Rattle.fv_outside.proofs.WrittenLaws.{GrowsByFront-none}
use Rattle.report_text.specs.declared.status.Status.{Status}
use Rattle.report_text.specs.declared.status.Status.TheVariants.{Memory, ReadFault, WriteFault, InputLimit}
use Rattle.report_text.specs.Answer.{Answer, IsEnd, OfTaken, StopsNear, Reading, Writing, AnswersNear, AnswersTo}

-- ---- what was taken

-- what holds of any bytes holds of those that were taken
pub of_taken_any : (Holds : List ℕ → Type 0) (most : ℕ) (x y : Option (List ℕ)) → ((bytes : List ℕ) → Holds bytes) → OfTaken most Holds x y
of_taken_any Holds most None y holds = tt
of_taken_any Holds most (Some bytes) None holds = tt
of_taken_any Holds most (Some bytes) (Some left) holds = holds _

pub took_more : (most : ℕ) (x y : Option (List ℕ)) → TookAtMost most x y → TookAtMost (most + 1) x y
took_more most None y took = tt
took_more most (Some bytes) None took = absurd took
took_more most (Some bytes) (Some left) took = omega arith

took_past : (count : ℕ) (x y : Option (List ℕ)) → TookJust count x y → TookAtMost count x y
took_past count None y took = tt
took_past count (Some bytes) None took = absurd took
took_past count (Some bytes) (Some left) took = omega arith

-- a count that rose from a later moment on rose from an earlier one on
pub rose_before : (a b c : ℕ) → a ≤ b → Rose b c → Rose a c
rose_before a b c le (inl lt) = inl (omega arith)
rose_before a b c le (inr end) = inr end

-- ---- how it ends

module _ (more : ℕ) (answer : List ℕ → Answer) (reading_end : List ℕ → ℕ) (most : ℕ) (reading : Reading) (writing : Writing) where
  -- with an answer
  pub near-end : (result : Status) → IsEnd result
      → IfSome reading.left (λ bytes. result ≡ (answer bytes).status)
      → IfSome reading.left (λ bytes. Grows writing.held writing.held_after (answer bytes).text)
      → TookAtMost most reading.left reading.left_after → TookToEnd reading_end reading.left reading.left_after
      → StopsNear more reading_end reading.left reading.left_after
      → AnswersNear more answer reading_end most result reading writing
  near-end result end status text within reached stops = record {
    status = λ _. status;
    report = λ _. text;
    front = λ is. absurd (subst IsEnd is end);
    due = λ is. absurd (none is);
    due_front = λ is. absurd (subst IsEnd is end);
    limit = λ taken is. absurd (subst IsEnd is end);
    within = λ _ _ _. within;
    past = took_more most reading.left reading.left_after within;
    reached = λ _. reached;
    stops = stops;
    beyond = λ taken is. absurd (subst IsEnd is end);
    read_fault = λ is. absurd (subst IsEnd is end);
    write_fault = λ is. absurd (subst IsEnd is end);
  }
    where
      none : (result ≡ ReadFault) ⊎ (result ≡ InputLimit most) → ⊥
      none (inl is) = subst IsEnd is end
      none (inr is) = subst IsEnd is end

  -- the source failed
  pub near-read_fault :
      OfTaken most (λ bytes. Grows writing.held writing.held_after (answer bytes).due) reading.left reading.left_after
      → TookAtMost most reading.left reading.left_after → StopsNear more reading_end reading.left reading.left_after
      → Rose reading.faults reading.faults_after
      → AnswersNear more answer reading_end most ReadFault reading writing
  near-read_fault due within stops rose = record {
    status = λ end. absurd end;
    report = λ end. absurd end;
    front = λ is. absurd (cc);
    due = λ _. due;
    due_front = λ is. absurd (cc);
    limit = λ taken is. absurd (cc);
    within = λ _ _ _. within;
    past = took_more most reading.left reading.left_after within;
    reached = λ end. absurd end;
    stops = stops;
    beyond = λ taken is. absurd (cc);
    read_fault = λ _. rose;
    write_fault = λ is. absurd (cc);
  }

  -- the source gave too much
  pub near-limit :
      OfTaken most (λ bytes. Grows writing.held writing.held_after (answer bytes).due) reading.left reading.left_after
      → TookJust (most + 1) reading.left reading.left_after → StopsNear more reading_end reading.left reading.left_after
      → EndsBehind reading_end most reading.left
      → AnswersNear more answer reading_end most (InputLimit most) reading writing
  near-limit due just stops behind = record {
    status = λ end. absurd end;
    report = λ end. absurd end;
    front = λ is. absurd (cc);
    due = λ _. due;
    due_front = λ is. absurd (cc);
    limit = λ taken is. let same : taken ≡ most = cc in (same, just);
    within = λ other _ _. absurd (other refl);
    past = took_past (most + 1) reading.left reading.left_after just;
    reached = λ end. absurd end;
    stops = stops;
    beyond = λ taken is. behind;
    read_fault = λ is. absurd (cc);
    write_fault = λ is. absurd (cc);
  }

  -- memory was wanting
  pub near-memory :
      OfTaken most (λ bytes. GrowsByFront writing.held writing.held_after (answer bytes).due) reading.left reading.left_after
      → TookAtMost (most + 1) reading.left reading.left_after → StopsNear more reading_end reading.left reading.left_after
      → AnswersNear more answer reading_end most Memory reading writing
  near-memory due past stops = record {
    status = λ end. absurd end;
    report = λ end. absurd end;
    front = λ is. absurd (cc);
    due = λ is. absurd (none is);
    due_front = λ _. due;
    limit = λ taken is. absurd (cc);
    within = λ _ _ other. absurd (other refl);
    past = past;
    reached = λ end. absurd end;
    stops = stops;
    beyond = λ taken is. absurd (cc);
    read_fault = λ is. absurd (cc);
    write_fault = λ is. absurd (cc);
  }
    where
      none : (Memory ≡ ReadFault) ⊎ (Memory ≡ InputLimit most) → ⊥
      none (inl is) = cc
      none (inr is) = cc

  -- the sink failed
  pub near-write_fault :
      IfSome reading.left (λ bytes. GrowsByFront writing.held writing.held_after (answer bytes).text)
      → TookAtMost (most + 1) reading.left reading.left_after → StopsNear more reading_end reading.left reading.left_after
      → Rose writing.faults writing.faults_after
      → AnswersNear more answer reading_end most WriteFault reading writing
  near-write_fault front past stops rose = record {
    status = λ end. absurd end;
    report = λ end. absurd end;
    front = λ _. front;
    due = λ is. absurd (none is);
    due_front = λ is. absurd (cc);
    limit = λ taken is. absurd (cc);
    within = λ _ other _. absurd (other refl);
    past = past;
    reached = λ end. absurd end;
    stops = stops;
    beyond = λ taken is. absurd (cc);
    read_fault = λ is. absurd (cc);
    write_fault = λ _. rose;
  }
    where
      none : (WriteFault ≡ ReadFault) ⊎ (WriteFault ≡ InputLimit most) → ⊥
      none (inl is) = cc
      none (inr is) = cc

-- the same where it reads on no more than the rest of one read
module _ (answer : List ℕ → Answer) (reading_end : List ℕ → ℕ) (most : ℕ) (reading : Reading) (writing : Writing) where
  pub answers-end : (result : Status) → IsEnd result
      → IfSome reading.left (λ bytes. result ≡ (answer bytes).status)
      → IfSome reading.left (λ bytes. Grows writing.held writing.held_after (answer bytes).text)
      → TookAtMost most reading.left reading.left_after → TookToEnd reading_end reading.left reading.left_after
      → StopsAtEnd reading_end reading.left reading.left_after
      → AnswersTo answer reading_end most result reading writing
  answers-end = near-end 0 answer reading_end most reading writing

  pub answers-read_fault :
      OfTaken most (λ bytes. Grows writing.held writing.held_after (answer bytes).due) reading.left reading.left_after
      → TookAtMost most reading.left reading.left_after → StopsAtEnd reading_end reading.left reading.left_after
      → Rose reading.faults reading.faults_after
      → AnswersTo answer reading_end most ReadFault reading writing
  answers-read_fault = near-read_fault 0 answer reading_end most reading writing

  pub answers-limit :
      OfTaken most (λ bytes. Grows writing.held writing.held_after (answer bytes).due) reading.left reading.left_after
      → TookJust (most + 1) reading.left reading.left_after → StopsAtEnd reading_end reading.left reading.left_after
      → EndsBehind reading_end most reading.left
      → AnswersTo answer reading_end most (InputLimit most) reading writing
  answers-limit = near-limit 0 answer reading_end most reading writing

  pub answers-memory :
      OfTaken most (λ bytes. GrowsByFront writing.held writing.held_after (answer bytes).due) reading.left reading.left_after
      → TookAtMost (most + 1) reading.left reading.left_after → StopsAtEnd reading_end reading.left reading.left_after
      → AnswersTo answer reading_end most Memory reading writing
  answers-memory = near-memory 0 answer reading_end most reading writing

  pub answers-write_fault :
      IfSome reading.left (λ bytes. GrowsByFront writing.held writing.held_after (answer bytes).text)
      → TookAtMost (most + 1) reading.left reading.left_after → StopsAtEnd reading_end reading.left reading.left_after
      → Rose writing.faults writing.faults_after
      → AnswersTo answer reading_end most WriteFault reading writing
  answers-write_fault = near-write_fault 0 answer reading_end most reading writing

-- Memory was wanting before anything was read or written.
pub answers-none : (answer : List ℕ → Answer) (reading_end : List ℕ → ℕ) (most : ℕ) (left held : Option (List ℕ)) (read read_after written written_after : ℕ)
    → AnswersTo answer reading_end most Memory (record { left = left; left_after = left; faults = read; faults_after = read_after })
    (record { held = held; held_after = held; faults = written; faults_after = written_after })
answers-none answer reading_end most left held read read_after written written_after =
    answers-memory answer reading_end most _ _
    (of_taken_any _ most left left (λ bytes. GrowsByFront-none held (answer bytes).due)) (took_none (most + 1) left) (stops_none left)
  where
    took_none : (count : ℕ) (x : Option (List ℕ)) → TookAtMost count x x
    took_none count None = tt
    took_none count (Some bytes) = omega arith

    stops_none : (x : Option (List ℕ)) → StopsAtEnd reading_end x x
    stops_none None = tt
    stops_none (Some bytes) = omega arith
