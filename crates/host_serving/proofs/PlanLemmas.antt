-- Events that are done up to here, and those that are left of the whole: so a loop goes through the events of its form.
use Rattle.std.proofs.Common.{◌≡◌, List, [], ◌∷◌, ◌++◌, Option, Some, None, is_none, if◌then◌else◌, refl, sym, ◌∙◌, ap, subst, append_assoc, append-nil}
use Rattle.host_core.specs.Host.{Host}
use Rattle.host_core.specs.World.{World}
use Rattle.host_core.specs.WorldEvent.{WorldEvent, IsEnabled, step, run_events}
use Rattle.host_world.specs.declared.fault.ClockEnd.{ClockEnd}
use Rattle.host_world.specs.Ending.{end_of}
use Rattle.host_serving.specs.Leading.{first_of, first_end, LeadsBy, LeadsByFront}
use Rattle.host_serving.specs.Form.{until_end, unless_ended}
use Rattle.host_serving.proofs.LeadingLaws.{by-none, by-one, by-then}

module _ {C R : Type 0} (host : Host C R) where
  -- The events that led to here, and what is left of the whole.
  pub record IsPartDone (first now : World C) (end : Option ClockEnd) (whole left : List (WorldEvent R)) : Type 0 where
    pub done : List (WorldEvent R)
    pub way : LeadsBy host first now end done
    pub parts : whole ≡ done ++ left

  pub part-none : (world : World C) (whole : List (WorldEvent R)) → IsPartDone world world None whole whole
  part-none world whole = record { done = []; way = by-none host world; parts = refl }

  -- nothing is left
  pub part-whole : (first now : World C) (end : Option ClockEnd) (whole : List (WorldEvent R)) → IsPartDone first now end whole []
      → LeadsBy host first now end whole
  part-whole first now end whole part =
      subst (LeadsBy host first now end) (sym (part.parts ∙ append-nil part.done)) part.way

  -- what is done is a front
  pub part-front : (first now : World C) (end : Option ClockEnd) (whole left : List (WorldEvent R)) → IsPartDone first now end whole left
      → LeadsByFront host first now whole
  part-front first now end whole left part = record { front = part.done; rest = left; parts = part.parts; end = end; way = part.way }

  -- other names of what is left
  pub part-left : (first now : World C) (end : Option ClockEnd) (whole left left' : List (WorldEvent R)) → left ≡ left' → IsPartDone first now end whole left
      → IsPartDone first now end whole left'
  part-left first now end whole left left' same part = subst (IsPartDone first now end whole) same part

  -- ---- one event more

  -- behind it the rest is left, or its clock ended and the whole is done
  abbrev pub GoesOn : World C → World C → List (WorldEvent R) → List (WorldEvent R) → Option ClockEnd → Type 0
  GoesOn first new whole rest None = IsPartDone first new None whole (until_end host new rest)
  GoesOn first new whole rest (Some end) = LeadsBy host first new (Some end) whole

  pub part-next : (first now new : World C) (whole : List (WorldEvent R)) (event : WorldEvent R) (rest : List (WorldEvent R)) (end : Option ClockEnd)
      → IsPartDone first now None whole (until_end host now (event ∷ rest)) → IsEnabled host now event → new ≡ step host now event → end ≡ end_of host now event
      → GoesOn first new whole rest end
  part-next first now new whole event rest end part may is ends =
      go end (by-then host first now new None end part.done (event ∷ []) part.way (by-one host now new event end may is ends))
      (part.parts ∙ ap (λ (e : Option ClockEnd). part.done ++ event ∷ (if is_none e then until_end host (step host now event) rest else [])) (sym ends))
    where
      go : (end : Option ClockEnd) → LeadsBy host first new end (part.done ++ event ∷ [])
          → whole ≡ part.done ++ event ∷ (if is_none end then until_end host (step host now event) rest else [])
          → GoesOn first new whole rest end
      go None way parts = record {
        done = part.done ++ event ∷ [];
        way = way;
        parts = parts ∙ ap (λ (w : World C). part.done ++ event ∷ until_end host w rest) (sym is)
            ∙ sym (append_assoc part.done (event ∷ []) (until_end host new rest));
      }
      go (Some end) way parts = subst (LeadsBy host first new (Some end)) (sym parts) way

  -- ---- several events more

  module _ (first now new : World C) (end more : Option ClockEnd) (whole xs ys : List (WorldEvent R)) (part : IsPartDone first now end whole (xs ++ ys)) where
    pub part-then : LeadsBy host now new more xs → IsPartDone first new (first_of end more) whole ys
    part-then way = record {
      done = part.done ++ xs;
      way = by-then host first now new end more part.done xs part.way way;
      parts = part.parts ∙ sym (append_assoc part.done xs ys);
    }

    pub part-then_front : LeadsByFront host now new xs → LeadsByFront host first new whole
    part-then_front some = record {
      front = part.done ++ some.front;
      rest = some.rest ++ ys;
      parts = part.parts
          ∙ ap (λ (zs : List (WorldEvent R)). part.done ++ (zs ++ ys)) some.parts
          ∙ ap (λ (zs : List (WorldEvent R)). part.done ++ zs) (append_assoc some.front some.rest ys)
          ∙ sym (append_assoc part.done some.front (some.rest ++ ys));
      end = first_of end some.end;
      way = by-then host first now new end some.end part.done some.front part.way some.way;
    }

  -- ---- what follows unless a clock ended

  module _ (world : World C) (xs : List (WorldEvent R)) (next : World C → List (WorldEvent R)) where
    -- one did
    pub unless-stopped : (later : World C) (end : ClockEnd) → LeadsBy host world later (Some end) xs → LeadsBy host world later (Some end) (unless_ended host world xs next)
    unless-stopped later end way =
        subst (LeadsBy host world later (Some end))
        (sym (append-nil xs)
        ∙ ap (λ (e : Option ClockEnd). xs ++ (if is_none e then next (run_events host world xs) else [])) (sym way.first)) way

    -- none did
    module _ (middle : World C) (way : LeadsBy host world middle None xs) where
      unless-is : unless_ended host world xs next ≡ xs ++ next middle
      unless-is =
          ap (λ (e : Option ClockEnd). xs ++ (if is_none e then next (run_events host world xs) else [])) way.first
          ∙ ap (λ (w : World C). xs ++ next w) (sym way.is)

      pub unless-on : (later : World C) (end : Option ClockEnd) → LeadsBy host middle later end (next middle) → LeadsBy host world later end (unless_ended host world xs next)
      unless-on later end more =
          subst (LeadsBy host world later end) (sym unless-is) (by-then host world middle later None end xs (next middle) way more)

      pub unless-on_front : (later : World C) → LeadsByFront host middle later (next middle) → LeadsByFront host world later (unless_ended host world xs next)
      unless-on_front later some = record {
        front = xs ++ some.front;
        rest = some.rest;
        parts = unless-is ∙ ap (λ (zs : List (WorldEvent R)). xs ++ zs) some.parts ∙ sym (append_assoc xs some.front some.rest);
        end = some.end;
        way = by-then host world middle later None some.end xs some.front way some.way;
      }

    -- nobody has come so far
    pub unless-front : (later : World C) → LeadsByFront host world later xs → LeadsByFront host world later (unless_ended host world xs next)
    unless-front later some = record {
      front = some.front;
      rest = some.rest ++ (if is_none (first_end host world xs) then next (run_events host world xs) else []);
      parts = ap (λ (zs : List (WorldEvent R)). zs ++ (if is_none (first_end host world xs) then next (run_events host world xs) else [])) some.parts
          ∙ append_assoc some.front some.rest (if is_none (first_end host world xs) then next (run_events host world xs) else []);
      end = some.end;
      way = some.way;
    }
