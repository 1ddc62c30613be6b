-- The work of a number: what is done, step by step.
use Rattle.std.specs.Prelude.{ℕ, zero, suc, ◌+◌, ◌*◌, ◌/◌, ◌%◌, ◌==◌, ◌&&◌, if◌then◌else◌, nat_lt, codes, List, [], ◌∷◌, ◌++◌, length, map, slice_index}
use Rattle.std.specs.Fmt.{decimal}
use Rattle.std.specs.List.{range_with_len}
use Rattle.sw_types.specs.Name.{NameModel}
use Rattle.sw_types.specs.Object.{ObjectModel, object_of}
use Rattle.sw_script.specs.Word.{script_head}
use Rattle.sw_script.specs.declared.event.Event.{Event}
use Rattle.sw_script.specs.declared.event.Event.TheVariants.{Restart, Run, Stop}
use Rattle.sw_script.specs.declared.event.Job.{Job}
use Rattle.sw_script.specs.declared.event.Job.TheVariants.{Delete, Get, Put, Recon}
use Rattle.sw_lab.specs.declared.draw.Draw.{Draw}

-- ---- numbers

-- the number behind another, by the generator of Lehmer with the multiplier and the modulus of `minstd_rand`
abbrev pub number_behind : ℕ → ℕ
number_behind number = (48271 * number) % 2147483647

-- the next three
abbrev pub draw_behind : ℕ → Draw
draw_behind number =
    let kind = number_behind number in
    let name = number_behind kind in
    record { kind = kind; name = name; body = number_behind name }

-- ---- the job of a step

-- `load/box/obj0` to `load/box/obj49`
abbrev pub name_of : ℕ → NameModel
name_of number = record { account = codes "load"; container = codes "box"; object = codes "obj" ++ decimal (number % 50) }

-- fewer than 5,000 bytes, each one more than the one before it
abbrev pub body_of : ℕ → List ℕ
body_of number = map (λ index. (number + index) % 256) (range_with_len 0 (number % 5000))

abbrev pub put_object : ℕ → ObjectModel
put_object number = object_of script_head (body_of number)

-- of eight kinds four are puts, three gets and one a delete
abbrev pub job_of : Draw → Job
job_of draw =
    if nat_lt (draw.kind % 8) 4 then Put (name_of draw.name) (put_object draw.body)
    else if nat_lt (draw.kind % 8) 7 then Get (name_of draw.name)
    else Delete (name_of draw.name)

-- ---- what stands before it

-- the device that stops before this step or comes back: each in turn, ascending
abbrev pub device_of : List ℕ → ℕ → ℕ
device_of devices step = slice_index devices ((step / 20) % length devices)

-- each device repairs its part of the step's name
abbrev pub repairs_of : List ℕ → Draw → List Event
repairs_of devices draw = map (λ device. Run (Recon device (name_of draw.name))) devices

-- In each twentieth step a device stops. Ten steps on it comes back, and all devices repair the step's name.
abbrev pub outage_of : List ℕ → ℕ → Draw → List Event
outage_of devices step draw =
    if step % 20 == 0 then Stop (device_of devices step) ∷ []
    else if step % 20 == 10 && nat_lt 10 step then Restart (device_of devices step) ∷ repairs_of devices draw
    else []

abbrev pub step_of : List ℕ → ℕ → Draw → List Event
step_of devices step draw = outage_of devices step draw ++ Run (job_of draw) ∷ []

-- ---- all steps

-- so many steps from this one on, behind this number
abbrev pub steps_from : List ℕ → (left step number : ℕ) → List Event
steps_from devices zero step number = []
steps_from devices (suc left) step number =
    let draw = draw_behind number in
    step_of devices step draw ++ steps_from devices left (step + 1) draw.body

-- The work of a number over a cluster of these devices, ascending: so many steps, by the numbers behind it.
abbrev pub workload_of : List ℕ → ℕ → List Event
workload_of devices number = steps_from devices number 1 number
